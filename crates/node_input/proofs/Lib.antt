pub mod Taken
pub mod Asking
pub mod Fronts
