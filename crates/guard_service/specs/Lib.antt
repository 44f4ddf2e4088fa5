pub mod Accusing
pub mod Answers
pub mod Evidence
pub mod Laws
pub mod Ranges
pub mod Words
