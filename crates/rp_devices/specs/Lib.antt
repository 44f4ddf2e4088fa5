pub mod Calls
pub mod Disks
pub mod Held
pub mod Links
