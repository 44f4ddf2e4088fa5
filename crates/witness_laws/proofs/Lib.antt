pub mod Taken
pub mod Spelled
