pub mod Telling
pub mod Cuts
pub mod Asking
