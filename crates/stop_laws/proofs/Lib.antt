pub mod Rested
pub mod Stopping
pub mod Binding
mod Own
pub mod Carried
pub mod Whole
