pub mod Sound
pub mod Lists
pub mod Clocks
pub mod Outputs
pub mod Lates
