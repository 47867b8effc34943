pub mod Table
pub mod Run
pub mod Promise
pub mod LensWindows
