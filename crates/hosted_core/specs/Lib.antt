pub mod Cores
pub mod Hosts
pub mod Turns
