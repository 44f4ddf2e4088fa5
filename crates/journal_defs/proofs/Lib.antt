pub mod Crashing
pub mod Entering
pub mod Gates
pub mod Recording
pub mod Running
pub mod Marking
