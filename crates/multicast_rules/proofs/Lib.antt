pub mod Telling
pub mod Waits
pub mod Reached
pub mod Certified
pub mod Ordering
pub mod Following
pub mod Placing
pub mod Slots
