pub mod Faults
pub mod Hosts
