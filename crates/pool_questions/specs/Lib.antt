pub mod Certificates
pub mod Events
pub mod Faults
