mod Keyed
pub mod Joining
pub mod Hearing
pub mod Asking
pub mod Counted
pub mod Marks
pub mod Claims
