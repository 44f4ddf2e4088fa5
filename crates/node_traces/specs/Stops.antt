-- What a stop leaves of the journal, at any moment of a run.
use Rattle.std.specs.Prelude.{ℕ, Bool, List, ◌++◌}
use Rattle.group_defs.specs.Accounts.{IsPrefixOf}
use Rattle.journal_defs.specs.Entries.{Entry}
use Rattle.journal_defs.specs.Crashes.{IsImageOf}
use Rattle.node_defs.specs.Casts.{Cast, Beginning, from_start}
use Rattle.node_defs.specs.Nodes.{Node, Answer, Snapper, run}
use Rattle.node_defs.specs.Lives.{Found, with_or_without, leaves}

-- Where a run begins on its journal: the bytes before the first entry that it reads, the processes and their counts of entries there, and what
-- it found from there on.
pub record Outset : Type 0 where
  pub head : List ℕ
  pub begins : Beginning
  pub found : Found

-- the start of the journal
abbrev pub at_start : Cast → Found → Outset
at_start c f = record { head = c.header; begins = from_start c; found = f }

-- The image is well formed, and reads as the entries before and those that a stop leaves after some front of these answers: with the entry
-- that was under way then, or without it.
pub record LeftFrom (c : Cast) (snap : Snapper) (f : Outset) (n : Node) (answers : List Answer) (before : List Entry) (image : List ℕ) : Type 0 where
  pub front : List Answer
  pub fronts : IsPrefixOf front answers
  pub with_more : Bool
  pub reads : IsImageOf f.head image (before ++ with_or_without (leaves c f.found (run c snap n front)) with_more)

-- the same of a run that began at the start of its journal, and found this
abbrev pub LeftBy : Cast → Snapper → Found → Node → List Answer → List Entry → List ℕ → Type 0
LeftBy c snap f n answers before image = LeftFrom c snap (at_start c f) n answers before image

-- ---- the law

-- of two parts of a run each leaves what the whole may leave
pub record EachPartLeaves (c : Cast) (snap : Snapper) (f : Outset) (n : Node) (first more : List Answer) : Type 0 where
  pub by_first : (before : List Entry) (image : List ℕ) → LeftFrom c snap f n first before image
      → LeftFrom c snap f n (first ++ more) before image
  pub by_more : (before : List Entry) (image : List ℕ) → LeftFrom c snap f (run c snap n first) more before image
      → LeftFrom c snap f n (first ++ more) before image

abbrev pub PartsLeave : Type 0
PartsLeave = (c : Cast) (snap : Snapper) (f : Outset) (n : Node) (first more : List Answer) → EachPartLeaves c snap f n first more
