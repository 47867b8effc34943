pub mod Parts
pub mod Window
pub mod Frame
