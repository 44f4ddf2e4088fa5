pub mod Below
pub mod Bounds
pub mod States
pub mod Events
pub mod Marks
pub mod Parts
pub mod Phases
pub mod Perceiving
