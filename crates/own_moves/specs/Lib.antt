pub mod Below
pub mod Lawful
