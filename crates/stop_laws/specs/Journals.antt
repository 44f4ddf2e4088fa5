-- A journal that its node reads to its end.
use Rattle.std.specs.Prelude.{ℕ, List}
use Rattle.journal_defs.specs.Entries.{Entry}
use Rattle.journal_defs.specs.Journals.{ReadsAs}
use Rattle.node_defs.specs.Casts.{Cast, Beginning}
use Rattle.node_defs.specs.Lives.{FitsFrom}
use Rattle.opening_laws.specs.Reading.{BreaksReading}

-- ---- the law

-- where the file reads after these bytes as entries that fit a node that begins so, its reading breaks off nowhere
abbrev pub JournalIsRead : Type 0
JournalIsRead = (c : Cast) (b : Beginning) (lines : ℕ) (head file : List ℕ) (es fs : List Entry) (place : ℕ) → ReadsAs head file fs
    → FitsFrom c b.from fs → ¬ BreaksReading c b lines head file es place
