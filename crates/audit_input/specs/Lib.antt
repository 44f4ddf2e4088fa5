pub mod Places
pub mod Views
pub mod Stops
pub mod Unread
