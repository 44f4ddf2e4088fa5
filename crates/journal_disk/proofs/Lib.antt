pub mod Fresh
pub mod Moments
pub mod OnceRead
pub mod Shutting
pub mod Steps
pub mod Reported
