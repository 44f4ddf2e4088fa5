pub mod Among
pub mod Said
