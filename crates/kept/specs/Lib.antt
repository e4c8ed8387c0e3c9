pub mod Reached
pub mod Same
