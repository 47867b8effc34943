pub mod Change
pub mod Counted
pub mod Settled
