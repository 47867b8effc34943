pub mod DisplayLaws
pub mod CallLaws
pub mod Rows
