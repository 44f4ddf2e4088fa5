pub mod Lines
pub mod Steps
pub mod Judged
pub mod Statuses
pub mod Proved
