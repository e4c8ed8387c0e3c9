pub mod Walk
pub mod Order
pub mod Readings
pub mod Tests
pub mod Last
