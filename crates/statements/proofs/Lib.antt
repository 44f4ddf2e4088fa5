mod Batching
mod Messages
mod Places
mod Spelled
pub mod Parts
pub mod Grammar
pub mod Bodies
