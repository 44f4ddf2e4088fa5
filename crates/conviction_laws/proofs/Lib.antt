pub mod Pairs
pub mod Convicted
