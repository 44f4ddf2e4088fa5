-- The letters of a turn, in the words of the crates below, passed on.
pub use Rattle.message_defs.specs.Spelling.{IsClaim}
pub use Rattle.letter_laws.specs.Letters.{AreInRange, IsFromOther}
pub use Rattle.node_turns.specs.Kept.{IsLast}
pub use Rattle.node_turns.specs.Letters.{IsSealable, LetsTurnOut, letters_in}
