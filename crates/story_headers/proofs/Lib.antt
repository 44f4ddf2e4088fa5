pub mod Members
pub mod OneTotal
