pub mod Commands
pub mod Reading
pub mod Views
pub mod Laws
