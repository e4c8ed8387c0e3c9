pub mod Signature
pub mod Stored
