pub mod Heard
pub mod Said
pub mod Placed
pub mod Refused
pub mod Running
pub mod States
