mod Below
pub mod DigestWords
pub mod Four
pub mod InLane
mod Majority
mod Rotations
mod Short
