pub mod Paired
mod Marked
