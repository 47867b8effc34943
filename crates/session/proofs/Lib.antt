pub mod Lists
pub mod Passes
