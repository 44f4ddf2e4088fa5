pub mod Conflicts
pub mod Few
pub mod Kept
pub mod Sought
pub mod Walking
