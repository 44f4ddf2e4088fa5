mod Entries
pub mod Carrying
mod Reading
mod Lengths
