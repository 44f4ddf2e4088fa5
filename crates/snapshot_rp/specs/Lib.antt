pub mod Claims
pub mod Views
pub mod Faults
pub mod Parts
