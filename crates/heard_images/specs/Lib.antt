pub mod Hearing
pub mod Signed
pub mod Walks
