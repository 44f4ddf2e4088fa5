pub mod Taking
pub mod Places
