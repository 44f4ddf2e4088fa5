mod Left
mod Counting
pub mod Telling
