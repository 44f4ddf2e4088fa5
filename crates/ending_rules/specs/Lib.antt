pub mod Due
pub mod Events
pub mod Perceiving
pub mod Questions
