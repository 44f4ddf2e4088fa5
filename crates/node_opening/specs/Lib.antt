pub mod Below
pub mod Begins
pub mod Holding
pub mod Opened
pub mod Reading
