pub mod Views
pub mod Signers
pub mod Keys
