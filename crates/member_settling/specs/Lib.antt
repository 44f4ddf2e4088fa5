pub mod Phases
pub mod Below
pub mod Reported
pub mod Steps
pub mod Begun
