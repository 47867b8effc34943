pub mod Display
pub mod Hear
pub mod Request
pub mod Call
pub mod Frame
pub mod Rows
