pub mod Act
pub mod Reply
pub mod Uses
