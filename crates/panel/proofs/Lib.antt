pub mod Switches
pub mod Tables
pub mod Promises
