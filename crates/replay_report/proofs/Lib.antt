pub mod Players
pub mod ProcessReport
pub mod Questions
pub mod Ending
pub mod Runs
