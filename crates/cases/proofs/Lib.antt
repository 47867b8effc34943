pub mod Opened
pub mod Cases
pub mod Allowed
pub mod Shown
pub mod Service
pub mod Foyer
pub mod Limits
pub mod Turn
