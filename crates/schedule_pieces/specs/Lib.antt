pub mod Fronts
pub mod Ends
pub mod Insides
pub mod Readers
