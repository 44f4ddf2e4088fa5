pub mod Keys
pub mod Schedules
pub mod Reading
pub mod Pieces
pub mod Generator
pub mod Signers
pub mod Worlds
pub mod Reports
