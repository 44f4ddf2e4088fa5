pub mod Opened
pub mod EntriesRead
