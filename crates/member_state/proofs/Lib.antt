pub mod Below
mod Liars
mod Seeking
pub mod Ranges
pub mod Entries
mod Starting
pub mod Marked
pub mod Laws
