pub mod Keeping
pub mod Grammar
