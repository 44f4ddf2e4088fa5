mod Turned
mod Absorbed
pub mod Cores
