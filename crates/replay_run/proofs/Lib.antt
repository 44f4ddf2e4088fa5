pub mod Headlines
pub mod Faulting
pub mod Ranges
pub mod Grammar
pub mod Stepping
pub mod Feeding
pub mod Answering
pub mod Ended
