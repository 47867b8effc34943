pub mod Explain
pub mod House
pub mod Play
pub mod Promise
