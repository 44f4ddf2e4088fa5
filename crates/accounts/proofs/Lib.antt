pub mod Lists
pub mod Since
