pub mod Steps
pub mod Reading
pub mod Spelling
pub mod Ranges
pub mod Laws
