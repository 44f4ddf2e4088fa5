pub mod Addressees
pub mod Frames
pub mod Claims
pub mod Keeping
