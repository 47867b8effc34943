pub mod CallLaws
pub mod Rows
