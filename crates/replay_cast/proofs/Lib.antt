pub mod Saying
pub mod Turns
pub mod OneClaim
pub mod Listing
pub mod Casting
