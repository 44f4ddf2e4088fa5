pub mod Looking
pub mod Lending
pub mod Fits
pub mod Grammar
