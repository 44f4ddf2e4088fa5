pub mod Below
pub mod Signed
pub mod Rows
pub mod Owns
pub mod Noting
pub mod Marks
pub mod Words
pub mod Claims
