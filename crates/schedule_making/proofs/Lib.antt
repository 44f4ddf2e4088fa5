pub mod Drawing
pub mod Fits
