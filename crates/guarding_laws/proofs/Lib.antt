pub mod Turns
pub mod Calm
pub mod Steps
pub mod Opened
pub mod Runs
