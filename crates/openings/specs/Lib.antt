pub mod Windows
pub mod Find
pub mod Pass
pub mod Promise
