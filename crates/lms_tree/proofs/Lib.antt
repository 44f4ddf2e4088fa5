pub mod TreeShape
pub mod Siblings
