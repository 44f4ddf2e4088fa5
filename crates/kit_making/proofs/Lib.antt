pub mod Bytes
pub mod MadeKits
pub mod Made
