pub mod Phases
pub mod Settled
pub mod Marks
pub mod Delivering
