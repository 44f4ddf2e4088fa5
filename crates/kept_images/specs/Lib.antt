pub mod Facts
pub mod Tests
pub mod Settings
