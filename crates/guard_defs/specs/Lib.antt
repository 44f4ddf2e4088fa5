pub mod Guarding
pub mod Lines
