pub mod Views
pub mod Looks
pub mod Cursor
pub mod Left
pub mod Batches
pub mod Below
