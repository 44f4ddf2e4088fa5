pub mod Judged
pub mod Few
pub mod Packed
pub mod Members
pub mod Notified
