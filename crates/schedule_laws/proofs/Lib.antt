pub mod Steps
pub mod Headers
pub mod Events
pub mod Wholes
pub mod Behind
pub mod Turns
pub mod Pieces
