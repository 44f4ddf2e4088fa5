pub mod Lists
pub mod Ends
pub mod Outcomes
pub mod Below
mod Last
mod Judged
