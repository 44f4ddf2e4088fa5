mod Starting
pub mod Cores
