pub mod Requests
pub mod Answers
pub mod Meanings
pub mod Filters
pub mod Laws
