mod Lists
mod Kept
mod Whole
mod Outcomes
mod Begun
mod Real
mod Limited
pub mod Ranges
