mod Liars
pub mod Joined
mod Handing
mod Judging
mod Back
pub mod Stepped
mod Absorbed
pub mod Spelled
mod Halting
