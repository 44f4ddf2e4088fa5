pub mod Parts
pub mod Left
pub mod Members
pub mod Phases
