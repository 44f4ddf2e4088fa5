pub mod Growing
pub mod Turns
pub mod Replying
pub mod Offering
pub mod Running
