pub mod Version
pub mod Cell
pub mod Words
pub mod Usable
pub mod Made
pub mod Fresh
pub mod Held
