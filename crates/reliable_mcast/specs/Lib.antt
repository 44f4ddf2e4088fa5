pub mod Packed
pub mod Archives
pub mod Answers
pub mod Certificates
