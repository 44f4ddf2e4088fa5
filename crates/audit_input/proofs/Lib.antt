pub mod Lines
pub mod Steps
pub mod Runs
pub mod Reasons
pub mod Statuses
