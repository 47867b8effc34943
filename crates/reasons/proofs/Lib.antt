pub mod ReasonLaws
