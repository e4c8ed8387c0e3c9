pub mod Reorder
pub mod Last
