pub mod Scripts
pub mod Lines
pub mod Casts
pub mod Nodes
pub mod Lives
pub mod Snapshots
