pub mod Cast
pub mod Traffic
pub mod Handing
pub mod Stepping
pub mod Lying
pub mod Worlds
pub mod Steps
pub mod Telling
