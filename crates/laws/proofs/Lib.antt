pub mod Tests
pub mod Walks
pub mod Bytes
pub mod Sums
pub mod Checks
pub mod Bits
