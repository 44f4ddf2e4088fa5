pub mod Shown
pub mod Fewer
pub mod Agreeing
pub mod Commits
pub mod Reported
