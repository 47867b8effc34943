pub mod CueLaws
pub mod PlayLaws
pub mod ReasonLaws
pub mod VerbLaws
