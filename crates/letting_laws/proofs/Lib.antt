pub mod Joined
pub mod Machine
pub mod Posting
