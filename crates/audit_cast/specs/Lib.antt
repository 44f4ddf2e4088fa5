pub mod Casts
pub mod Turns
pub mod Judges
