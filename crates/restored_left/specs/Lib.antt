pub mod Judged
pub mod Parts
pub mod Facts
pub mod Members
pub mod Phases
