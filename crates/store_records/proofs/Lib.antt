pub mod Readers
pub mod Orders
mod Cursors
pub mod Lengths
