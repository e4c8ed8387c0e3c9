pub mod Listening
pub mod Handing
pub mod Calls
pub mod Line
pub mod WorkedLine
