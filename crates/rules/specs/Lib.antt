pub mod Rules
pub mod Seal
pub mod Order
pub mod Verdict
pub mod Before
pub mod Fits
pub mod Found
