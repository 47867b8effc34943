pub mod Tests
pub mod Count
pub mod Order
