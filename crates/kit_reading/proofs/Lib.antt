pub mod Lasts
pub mod Additions
pub mod TextLines
pub mod Spelled
pub mod FrontLines
