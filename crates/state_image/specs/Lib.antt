pub mod Commits
pub mod Pairs
pub mod Ranges
pub mod States
