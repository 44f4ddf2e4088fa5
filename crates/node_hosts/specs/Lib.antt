pub mod Places
pub mod Numbers
pub mod Hosts
pub mod Counts
pub mod Turns
pub mod Nodes
pub mod Cores
