pub mod Lines
pub mod Reading
pub mod Stops
pub mod Serving
