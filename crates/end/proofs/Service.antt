-- Demand 3: the proof that every allowed list of calls is a run of the service, in the order in which it goes.
pub mod View
pub mod Booked
pub mod Sources
pub mod Frame
pub mod Steps
pub mod Words
pub mod Quiets
pub mod Ends
pub mod Unclashed
pub mod Lates
