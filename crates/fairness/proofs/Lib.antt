pub mod Judged
pub mod Follows
pub mod Honest
pub mod Written
pub mod Listing
pub mod Rows
pub mod Tried
