pub mod Repeats
pub mod Lasts
