pub mod Lists
pub mod Certificates
pub mod Beside
pub mod Entries
pub mod Kept
