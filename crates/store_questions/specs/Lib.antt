pub mod Said
pub mod Gathering
pub mod Views
pub mod Places
pub mod Stops
pub mod Running
