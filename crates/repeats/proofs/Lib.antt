pub mod Ahead
pub mod Written
pub mod Last
pub mod Numbers
pub mod Again
pub mod Worked
