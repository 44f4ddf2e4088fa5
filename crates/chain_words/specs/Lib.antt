pub mod Stops
pub mod Places
pub mod Running
pub mod Lines
