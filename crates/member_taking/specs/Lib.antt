pub mod Below
pub mod Inputs
pub mod Perceiving
pub mod States
