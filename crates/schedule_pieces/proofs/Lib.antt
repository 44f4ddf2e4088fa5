pub mod Spans
pub mod Taken
pub mod Feeding
pub mod Giving
pub mod AtEnd
