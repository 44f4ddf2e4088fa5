pub mod Signed
pub mod States
