pub mod Record
pub mod Pieces
pub mod Promise
