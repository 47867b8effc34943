pub mod Frame
pub mod Promise
