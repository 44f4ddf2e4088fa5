pub mod Below
pub mod Kits
pub mod KitReading
pub mod KitMaking
pub mod KitLaws
