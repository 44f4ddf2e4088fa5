pub mod Cells
pub mod Marks
pub mod Claims
pub mod Statements
