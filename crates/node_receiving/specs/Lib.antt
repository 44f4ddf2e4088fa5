pub mod Events
pub mod Hosts
pub mod Receiving
pub mod Stops
pub mod Taking
pub mod Service
pub mod Turns
