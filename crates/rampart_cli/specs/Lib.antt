pub mod Top
pub mod Hosts
pub mod Reported
