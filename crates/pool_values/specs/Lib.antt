pub mod Updates
pub mod Ends
pub mod Places
