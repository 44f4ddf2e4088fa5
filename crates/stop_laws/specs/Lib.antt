pub mod Stops
pub mod Binds
pub mod Scripts
pub mod Journals
