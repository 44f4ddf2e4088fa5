pub mod Convicting
pub mod Evidence
pub mod Running
pub mod Grounds
pub mod Accusing
