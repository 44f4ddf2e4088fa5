pub mod Given
pub mod OneWord
pub mod Stopped
