pub mod Waiting
pub mod Ordering
pub mod Placing
pub mod Delivering
pub mod Certificates
