pub mod Heard
pub mod Least
pub mod Messages
pub mod Placing
pub mod Perceived
pub mod Ranks
pub mod Ending
