pub mod Refusals
pub mod LevelSigners
