pub mod Bits
pub mod Number
pub mod Reads
pub mod Signed
pub mod Splice
