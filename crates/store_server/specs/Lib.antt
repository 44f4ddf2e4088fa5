pub mod Serving
pub mod Notes
pub mod Beginning
pub mod Places
