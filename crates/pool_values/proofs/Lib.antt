pub mod Below
pub mod PlacedLength
pub mod Notified
pub mod Ended
pub mod Inserted
mod Marked
