pub mod Convicted
pub mod Runs
pub mod Accusing
