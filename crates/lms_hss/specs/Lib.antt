pub mod Refusals
pub mod Plans
pub mod Trees
pub mod Key
