pub mod Asked
pub mod Lists
