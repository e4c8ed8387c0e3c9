pub mod Lines
pub mod Pieces
pub mod Ran
pub mod Started
pub mod Portions
pub mod Unsealed
pub mod Versions
