pub mod Settings
pub mod Verdicts
pub mod Certificates
pub mod Updates
pub mod Kept
