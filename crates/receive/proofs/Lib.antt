pub mod Arriving
pub mod Lists
pub mod Passes
pub mod Reports
pub mod Whole
pub mod Reasons
