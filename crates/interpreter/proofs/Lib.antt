pub mod CutLaws
pub mod FeedLaws
pub mod HouseLaws
pub mod Pieces
pub mod PlayLaws
