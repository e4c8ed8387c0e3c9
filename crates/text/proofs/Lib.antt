pub mod Cuts
pub mod Pieces
pub mod Decimals
