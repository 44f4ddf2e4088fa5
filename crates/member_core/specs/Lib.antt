pub mod Outcomes
pub mod Cores
pub mod Journalled
pub mod Entries
pub mod Events
