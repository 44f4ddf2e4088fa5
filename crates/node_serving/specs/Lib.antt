pub mod Hosts
pub mod Service
pub mod Serving
pub mod Stops
pub mod Taking
