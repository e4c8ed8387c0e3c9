pub mod Touches
pub mod Stores
pub mod Elsewhere
pub mod Signatures
pub mod Storing
