mod Starting
mod Standing
pub mod Turning
pub mod Written
mod Absorbing
pub mod Again
pub mod Cores
