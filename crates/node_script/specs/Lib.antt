pub mod Below
pub mod Ends
pub mod Words
pub mod Sources
pub mod Inputs
pub mod Service
