pub mod CallLaws
pub mod GivenLaws
