pub mod Batches
pub mod Views
pub mod Raw
