pub mod Steps
pub mod Taken
pub mod Kits
pub mod Runs
pub mod Statuses
pub mod Written
