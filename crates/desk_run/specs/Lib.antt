pub mod Line
pub mod Desk
