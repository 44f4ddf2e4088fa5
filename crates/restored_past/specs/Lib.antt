pub mod Hearing
pub mod Keeping
pub mod Installed
pub mod Parts
