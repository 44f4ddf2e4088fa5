pub mod Below
pub mod Began
pub mod Sends
pub mod Taking
