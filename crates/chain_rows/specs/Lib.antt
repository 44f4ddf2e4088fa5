pub mod Scripts
pub mod Shown
pub mod Frames
pub mod Reported
pub mod Whole
pub mod Premises
