pub mod Removals
pub mod Judged
