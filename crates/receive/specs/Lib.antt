pub mod Hearing
pub mod Steps
pub mod Reason
