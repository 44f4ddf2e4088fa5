pub mod Wanted
pub mod Lefts
pub mod Taken
pub mod OfListed
