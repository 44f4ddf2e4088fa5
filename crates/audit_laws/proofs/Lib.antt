pub mod Written
pub mod TurnsTaken
pub mod OwnWords
pub mod OfListed
pub mod Walked
pub mod OfEntries
pub mod Spared
pub mod Headline
