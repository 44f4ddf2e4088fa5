pub mod Absorbing
pub mod Beginning
pub mod Spots
pub mod Walking
pub mod Written
pub mod Cores
