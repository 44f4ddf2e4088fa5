pub mod Real
pub mod Judging
pub mod Said
pub mod Restored
