pub mod Seen
pub mod Taken
pub mod Audits
