pub mod Taken
pub mod Signed
pub mod Settled
pub mod Slots
pub mod Once
