pub mod Own
pub mod Slots
