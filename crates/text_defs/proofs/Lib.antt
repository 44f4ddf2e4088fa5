pub mod Tests
pub mod Numbers
pub mod Bytes
pub mod Lines
pub mod Choosing
