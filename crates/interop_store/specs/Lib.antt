pub mod Telling
pub mod Questions
