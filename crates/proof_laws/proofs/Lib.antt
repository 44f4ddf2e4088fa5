pub mod Packed
pub mod Frames
pub mod Chains
pub mod Starts
pub mod GoingOn
