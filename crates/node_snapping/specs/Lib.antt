pub mod Hosts
pub mod Service
pub mod Snapping
pub mod Stops
pub mod Taking
