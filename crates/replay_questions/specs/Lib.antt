pub mod Owned
pub mod Words
pub mod Cast
pub mod Worlds
pub mod Runs
pub mod Stops
