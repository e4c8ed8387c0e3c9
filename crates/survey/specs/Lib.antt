pub mod Rows
pub mod File
pub mod Described
pub mod Gather
pub mod Sending
