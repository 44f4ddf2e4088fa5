pub mod Behind
pub mod Pieces
