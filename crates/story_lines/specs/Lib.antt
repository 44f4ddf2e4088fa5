pub mod Faults
pub mod Cursors
