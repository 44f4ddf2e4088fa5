pub mod Phrases
pub mod Outcomes
pub mod Happenings
pub mod Events
