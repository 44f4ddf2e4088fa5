pub mod Parts
pub mod Judged
pub mod States
pub mod Restored
