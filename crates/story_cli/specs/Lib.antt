pub mod Messages
pub mod Stopping
pub mod Top
