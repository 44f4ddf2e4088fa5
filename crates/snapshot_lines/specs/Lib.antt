pub mod Views
pub mod Said
