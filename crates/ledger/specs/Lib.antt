pub mod Judgement
pub mod View
