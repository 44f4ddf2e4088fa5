-- How a node reads the entries of its journal, one after the other.
use Rattle.std.specs.Prelude.{◌≡◌, ◌⊎◌, ℕ, ◌+◌, ◌==◌, if◌then◌else◌, Bool, true, false, List, [], ◌∷◌, ◌++◌, length, Some, None}
use Rattle.journal_defs.specs.Entries.{Entry}
use Rattle.journal_defs.specs.Journals.{LieBefore, HasEntryAt, IsBrokenAt}
use Rattle.node_defs.specs.Lines.{BadJournal}
use Rattle.node_defs.specs.Casts.{Cast, Beginning, entries_of}
use Rattle.node_defs.specs.Nodes.{Node, reads, reads_one, takes_up, at_first}

-- the node that has read these entries
abbrev pub after_reading : Cast → Beginning → ℕ → List Entry → Node
after_reading c b lines es = reads c (at_first b lines) es

-- ---- the law of a reading

-- A node that has not stopped at the first entries goes on with the others. It takes the next one up, where a hosted process may have
-- written it; else it stops at its place, whatever comes after it.
pub record ReadsOn (c : Cast) (n : Node) (es : List Entry) : Type 0 where
  pub goes_on : (fs : List Entry) → reads c n (es ++ fs) ≡ reads c (reads c n es) fs
  pub kept : (reads c n es).kept ≡ n.kept ++ es
  pub took : (e : Entry) → takes_up c (reads c n es) e ≡ true → reads c n (es ++ e ∷ []) ≡ reads_one c (reads c n es) e
  pub refused : (e : Entry) (fs : List Entry) → takes_up c (reads c n es) e ≡ false
      → reads c n (es ++ e ∷ fs) ≡ record (reads c n es) { stopped = Some (BadJournal (reads c n es).gate) }

abbrev pub EachReadsOn : Type 0
EachReadsOn = (c : Cast) (n : Node) (es : List Entry) → (reads c n es).stopped ≡ None → ReadsOn c n es

-- with one entry more, its process has one more, and each other process as many as before
abbrev pub OneMoreCounts : Type 0
OneMoreCounts = (p : ℕ) (es : List Entry) (e : Entry) → length (entries_of p (es ++ e ∷ [])) ≡ length (entries_of p es)
    + (if e.process == p then 1 else 0)

-- ---- a bad journal

-- What is at this place is no entry of the node: the gate there is open, and either no whole entry and next gate follow it, or an
-- entry that no hosted process may have written.
abbrev pub IsBadAt : Cast → Node → List ℕ → ℕ → Type 0
IsBadAt c n file place = IsBrokenAt file place ⊎ ((e : Entry) × (next : ℕ) × HasEntryAt file place e next × (takes_up c n e ≡ false))

-- The file has these bytes, after which the run begins, and then these entries before this place; the node takes them up; and what is at the
-- place is no entry of this node.
pub record BreaksReading (c : Cast) (b : Beginning) (lines : ℕ) (head file : List ℕ) (es : List Entry) (place : ℕ) : Type 0 where
  pub stands : LieBefore head file es place
  pub runs : (after_reading c b lines es).stopped ≡ None
  pub gate : (after_reading c b lines es).gate ≡ place
  pub bad : IsBadAt c (after_reading c b lines es) file place
