pub mod Lasts
pub mod Begun
pub mod KeyLines
pub mod Counted
pub mod Parts
pub mod Settled
pub mod Noted
