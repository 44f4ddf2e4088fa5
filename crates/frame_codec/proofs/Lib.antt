pub mod Loops
pub mod Items
pub mod Grammar
pub mod Drafting
pub mod Said
pub mod Below
