pub mod NumberLaws
pub mod Moves
pub mod StepLaws
pub mod History
pub mod StaysSound
pub mod Asks
pub mod Answers
pub mod Foyer
