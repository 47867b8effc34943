pub mod Arguments
pub mod Call
pub mod Open
pub mod Reason
