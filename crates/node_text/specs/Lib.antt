pub mod Words
pub mod Views
pub mod Reported
pub mod Outcomes
