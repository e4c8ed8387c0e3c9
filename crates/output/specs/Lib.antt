pub mod Cursor
pub mod Refusal
pub mod Output
