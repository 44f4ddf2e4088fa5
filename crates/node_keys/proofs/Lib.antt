pub mod Sharing
pub mod InKits
