pub mod Scripts
pub mod Commands
pub mod ServeTwoRequests
pub mod Asked
pub mod StateForJoiner
pub mod Votes
pub mod Transfers
pub mod Places
