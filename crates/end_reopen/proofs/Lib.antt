pub mod ReopenLaws
pub mod ReopeningLaws
