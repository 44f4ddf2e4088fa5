pub mod Packing
pub mod Answering
pub mod Kept
pub mod Laws
