pub mod Calls
pub mod Devices
pub mod Questions
pub mod Telling
pub mod Runs
