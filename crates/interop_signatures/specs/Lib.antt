pub mod Schemes
pub mod Trees
pub mod Levels
pub mod Signatures
pub mod Views
