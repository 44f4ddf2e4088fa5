pub mod Behind
pub mod Views
