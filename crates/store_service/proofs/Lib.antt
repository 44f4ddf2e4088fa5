pub mod Found
pub mod Reported
pub mod Worded
pub mod Begun
pub mod Histories
pub mod Changes
pub mod OfKits
pub mod Hosted
