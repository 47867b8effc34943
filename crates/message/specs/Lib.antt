pub mod Limit
pub mod Kind
pub mod Cue
pub mod Section
pub mod Entry
pub mod Message
pub mod Question
