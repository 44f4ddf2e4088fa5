pub mod Carried
pub mod Packed
pub mod Read
pub mod Seeking
pub mod Signing
pub mod Sent
pub mod Heard
pub mod Whole
