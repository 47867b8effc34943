pub mod Left
pub mod Line
pub mod Words
