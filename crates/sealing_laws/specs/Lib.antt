pub mod Letters
pub mod Sealing
pub mod Service
pub mod Events
pub mod Running
