pub mod Lists
pub mod LevelFacts
pub mod TreeFacts
