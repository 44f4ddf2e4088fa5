pub mod Answered
pub mod Lines
pub mod Runs
pub mod Stops
