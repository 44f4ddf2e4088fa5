mod Served
mod Heard
pub mod Handed
