pub mod Below
pub mod Among
pub mod Laws
pub mod Nothing
pub mod Lines
pub mod Stopped
