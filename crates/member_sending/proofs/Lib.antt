pub mod Parcels
pub mod Messages
pub mod Own
pub mod Places
pub mod Walks
