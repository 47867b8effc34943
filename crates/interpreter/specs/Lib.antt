pub mod Interpreter
pub mod Promise
