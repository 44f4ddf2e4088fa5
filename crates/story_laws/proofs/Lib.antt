pub mod Scans
pub mod Again
pub mod StatementsAgain
pub mod EventsAgain
pub mod HeadersAgain
pub mod Wholes
