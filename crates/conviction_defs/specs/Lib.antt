pub mod Convictions
pub mod Laws
