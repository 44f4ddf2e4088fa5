pub mod Lists
pub mod Pairs
pub mod Whole
pub mod Kept
