pub mod FirstWords
pub mod LineViews
