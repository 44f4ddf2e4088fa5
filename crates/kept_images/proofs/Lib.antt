pub mod Counted
pub mod Ending
pub mod Entries
pub mod Facts
pub mod Leaving
pub mod Tested
pub mod Walks
