pub mod Players
pub mod Walks
pub mod Cores
pub mod Judges
