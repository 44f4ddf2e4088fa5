pub mod Wants
pub mod ReportedWords
pub mod Tested
pub mod OwnWords
pub mod Whole
pub mod Seats
