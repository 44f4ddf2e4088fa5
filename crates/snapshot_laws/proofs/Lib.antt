pub mod Fields
pub mod Lists
pub mod Claims
pub mod Values
pub mod Messages
pub mod Parts
pub mod Images
pub mod Versions
