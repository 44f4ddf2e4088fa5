pub mod Pieces
pub mod Reported
