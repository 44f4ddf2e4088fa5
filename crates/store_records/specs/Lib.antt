pub mod Views
pub mod Finds
pub mod Cursors
