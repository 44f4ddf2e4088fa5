pub mod Batches
pub mod OneWord
