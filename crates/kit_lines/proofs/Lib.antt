pub mod FirstWords
pub mod Members
