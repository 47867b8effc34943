pub mod AnswerLine
pub mod Put
