pub mod Texts
pub mod Keys
pub mod Hosted
pub mod Copying
mod Readers
