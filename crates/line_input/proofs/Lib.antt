pub mod LineLaws
pub mod Taken
pub mod BytesTaken
pub mod Places
