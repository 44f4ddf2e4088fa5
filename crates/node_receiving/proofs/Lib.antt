pub mod Gets
pub mod Links
pub mod Others
pub mod Opened
pub mod Answered
pub mod Loop
pub mod Still
pub mod Handed
