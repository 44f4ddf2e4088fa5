pub mod Below
pub mod Phases
pub mod AsReported
