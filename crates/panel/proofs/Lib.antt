pub mod AnswerLaws
pub mod Kept
pub mod Computed
