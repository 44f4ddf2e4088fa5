pub mod Hearers
pub mod Telling
pub mod Questions
