pub mod Reported
pub mod Events
