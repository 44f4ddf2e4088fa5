pub mod Entries
pub mod Soundness
pub mod Openings
pub mod Made
pub mod Fitting
pub mod Lasting
pub mod InOrder
