pub mod Counted
pub mod Settled
pub mod Spans
