pub mod Letters
pub mod Kept
pub mod Outcomes
pub mod Service
pub mod Events
pub mod Running
