pub mod Kept
pub mod Promise
