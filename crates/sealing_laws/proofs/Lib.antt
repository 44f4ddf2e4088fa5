mod InRange
pub mod Sealed
pub mod Passed
