pub mod Written
pub mod Scripts
pub mod Hosts
