pub mod Needs
pub mod Calls
pub mod OneRound
pub mod Rounds
pub mod Others
pub mod Plays
pub mod Rows
