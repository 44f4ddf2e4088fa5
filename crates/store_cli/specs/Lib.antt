pub mod Commands
pub mod Messages
pub mod Running
