pub mod Plain
pub mod Strings
pub mod LmOts
pub mod Lms
pub mod Hss
pub mod Laws
pub mod Schemes
pub mod Secrets
