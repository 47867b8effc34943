pub mod Reopen
pub mod Reopening
