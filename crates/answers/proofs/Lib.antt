pub mod Cases
pub mod PutLaws
