pub mod Secrets
pub mod Skipped
