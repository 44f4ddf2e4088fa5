pub mod Handed
pub mod Sent
pub mod Reported
pub mod Turned
pub mod Passed
