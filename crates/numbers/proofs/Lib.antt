pub mod BitLaws
pub mod Cases
pub mod NumberLaws
pub mod SignedLaws
pub mod SpliceLaws
