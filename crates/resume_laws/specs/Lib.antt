pub mod Refusing
pub mod Resuming
pub mod Snapping
pub mod Said
pub mod Traces
pub mod Spelled
