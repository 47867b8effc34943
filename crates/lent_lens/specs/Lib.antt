pub mod Lens
pub mod Promise
