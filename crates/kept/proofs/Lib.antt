pub mod Truth
pub mod Answers
pub mod Writes
pub mod Alike
pub mod Frames
