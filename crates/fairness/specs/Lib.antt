pub mod Judged
pub mod Honest
