pub mod Cases
pub mod DecimalLaws
pub mod ReadBack
pub mod RoomLaws
pub mod WordLaws
