pub mod Ways
pub mod Outside
pub mod Service
pub mod Stops
pub mod Goes
pub mod Seen
pub mod Went
