pub mod Choices
pub mod Members
pub mod Orders
pub mod Equality
pub mod Fields
pub mod Reads
