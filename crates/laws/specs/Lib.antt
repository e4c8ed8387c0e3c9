pub mod Bytes
pub mod Checks
pub mod Bits
