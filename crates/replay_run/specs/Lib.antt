pub mod Faults
pub mod Reported
pub mod Running
pub mod Midway
pub mod Fed
