mod Answered
mod Ending
pub mod OfListed
mod Players
mod Rising
mod Sparing
mod Reported
