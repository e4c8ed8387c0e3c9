pub mod Commute
pub mod Doing
pub mod Replying
pub mod Uses
