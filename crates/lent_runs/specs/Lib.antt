pub mod Due
pub mod Reopening
pub mod Numbers
pub mod Lists
pub mod Restarts
pub mod Displays
pub mod Plain
