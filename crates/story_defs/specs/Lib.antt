pub mod PlainLines
pub mod Words
pub mod Statements
pub mod Lines
pub mod Stories
pub mod Texts
