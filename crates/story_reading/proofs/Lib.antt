pub mod Additions
pub mod TextLines
pub mod MarkLoop
pub mod Spelled
