pub mod LineViews
pub mod Drafts
pub mod Faults
