pub mod Hashes
pub mod Keys
pub mod Kept
pub mod Statements
