pub mod CueLaws
pub mod JudgeLaws
pub mod Rows
pub mod ViewLaws
