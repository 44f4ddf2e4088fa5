pub mod Reading
pub mod Service
pub mod Asked
mod Calm
mod Calls
mod Rested
mod Parts
mod Past
mod Binding
pub mod Stopping
