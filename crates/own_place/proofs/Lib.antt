mod Noted
mod Reaching
pub mod Below
pub mod Next
pub mod Batches
pub mod Telling
pub mod Marked
pub mod Notified
