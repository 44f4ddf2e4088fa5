pub mod Runs
pub mod Reported
pub mod Laws
pub mod Services
