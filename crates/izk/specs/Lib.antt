pub mod Heard
pub mod Block
pub mod Frames
pub mod Useless
pub mod Refusals
pub mod Since
