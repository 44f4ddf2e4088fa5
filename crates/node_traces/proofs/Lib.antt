pub mod Joined
pub mod Left
pub mod Going
pub mod Went
pub mod Quiet
pub mod Service
