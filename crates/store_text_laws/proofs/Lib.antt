pub mod Requests
pub mod Words
pub mod Outcomes
pub mod Reported
