pub mod Answers
pub mod Gates
pub mod Headers
pub mod Stages
pub mod Turns
