pub mod Players
pub mod Liars
pub mod Keyed
pub mod Starts
pub mod Casts
