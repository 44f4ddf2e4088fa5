mod Signing
mod Fitting
pub mod Listed
mod Said
mod Walked
