pub mod Replied
pub mod Short
pub mod Delivering
pub mod Telling
