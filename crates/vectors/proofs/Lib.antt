pub mod Worked
pub mod Files
