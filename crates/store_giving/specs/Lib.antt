pub mod States
pub mod Handed
pub mod Spellings
pub mod Signatures
pub mod Offers
pub mod Given
