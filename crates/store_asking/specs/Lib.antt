pub mod Lines
pub mod Places
pub mod Counts
pub mod Stops
pub mod Answers
