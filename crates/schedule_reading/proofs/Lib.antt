pub mod EventLoop
pub mod Spelled
