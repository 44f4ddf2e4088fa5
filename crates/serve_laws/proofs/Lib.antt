pub mod Opened
pub mod Changing
pub mod Along
pub mod Telling
pub mod Served
