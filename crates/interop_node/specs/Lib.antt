pub mod Journals
pub mod Datagrams
pub mod Questions
