pub mod Tests
pub mod PassLaws
pub mod Numbers
pub mod Earliest
pub mod Cases
