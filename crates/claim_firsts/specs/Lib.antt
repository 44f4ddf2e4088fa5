pub mod Tables
pub mod Seen
pub mod Seeing
pub mod First
pub mod Own
pub mod Entries
pub mod Answered
pub mod Reported
