pub mod Tags
pub mod Asked
