pub mod Runs
pub mod Resumed
pub mod Ended
pub mod Inputs
