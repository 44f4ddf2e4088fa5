pub mod OneWord
pub mod Lines
pub mod Runs
pub mod Statuses
