pub mod SetLaws
pub mod WindowLaws
