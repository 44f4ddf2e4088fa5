pub mod Frames
pub mod OwnWords
pub mod Asked
