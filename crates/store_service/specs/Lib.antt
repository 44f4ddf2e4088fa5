pub mod Service
pub mod Served
pub mod Laws
