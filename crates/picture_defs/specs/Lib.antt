pub mod Elements
pub mod Styles
pub mod Layout
pub mod Legends
pub mod Drawing
pub mod Labels
pub mod Pictures
