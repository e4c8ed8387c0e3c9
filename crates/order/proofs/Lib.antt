pub mod Demand3
pub mod FrameCells
pub mod Repeats
pub mod Sealed
pub mod Tests
pub mod Worked
