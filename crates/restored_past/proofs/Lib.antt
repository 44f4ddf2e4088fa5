mod Rising
mod Commits
pub mod Certain
mod Same
mod Following
mod Walked
