pub mod Below
pub mod Keyed
pub mod Found
pub mod Adding
pub mod Signers
pub mod Sets
pub mod Noted
pub mod Unheard
