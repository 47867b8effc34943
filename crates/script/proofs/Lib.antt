pub mod Cases
pub mod LineLaws
pub mod LongLines
pub mod WordsLaws
