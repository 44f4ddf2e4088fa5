pub mod Walks
pub mod InView
pub mod Heard
