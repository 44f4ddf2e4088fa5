pub mod Kits
pub mod Sources
pub mod Reads
pub mod Texts
pub mod Events
