pub mod Open
pub mod Perceived
