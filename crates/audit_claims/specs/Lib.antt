pub mod Handed
pub mod Asked
pub mod Judges
