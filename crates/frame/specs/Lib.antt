pub mod Digits
pub mod Capitals
pub mod Apart
pub mod Built
pub mod Read
pub mod Written
