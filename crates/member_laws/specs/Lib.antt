pub mod Lawful
pub mod Telling
