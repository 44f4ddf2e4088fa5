pub mod Hearing
pub mod Settings
pub mod Kept
