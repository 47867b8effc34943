pub mod Line
pub mod Print
