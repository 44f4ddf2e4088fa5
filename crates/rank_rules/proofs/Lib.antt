pub mod Ranking
pub mod Justifying
pub mod Acking
pub mod Deciding
pub mod Unheard
