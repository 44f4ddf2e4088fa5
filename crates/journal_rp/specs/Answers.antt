-- Which faults a call of a journal answers, and why.
-- Names here (* for this crate alone):
--   HasCauses
--   what each call has besides the disk's fault: of_start, of_read, of_entry*, of_memory, of_skip*, of_append, of_none
--   what is so where a fault comes: IfNotAJournal, IfEntry, IfOther*, IfFull, IsFull
use Rattle.std.specs.Prelude.{◌≡◌, ℕ, ◌≤◌, Bool, true, false, IsTrue, Result, Ok, Err}
use Rattle.rp_base.specs.Causes.{Rose}
use Rattle.journal_rp.specs.declared.fault.JournalFault.{JournalFault}
use Rattle.journal_rp.specs.declared.fault.JournalFault.TheVariants.{DiskFault, NotAJournal, Entry, Other, Full, NoMemory}

-- The disk's fault comes only where the disk's count rose, and else the count stays. Of the other faults only those come that
-- the call has.
abbrev pub HasCauses : {T : Type 0} → (JournalFault → Bool) → ℕ → ℕ → Result T JournalFault → Type 0
HasCauses has before now (Ok x) = now ≡ before
HasCauses has before now (Err DiskFault) = (before ≤ now) × Rose before now
HasCauses has before now (Err NotAJournal) = (now ≡ before) × IsTrue (has NotAJournal)
HasCauses has before now (Err (Entry place)) = (now ≡ before) × IsTrue (has (Entry place))
HasCauses has before now (Err (Other place)) = (now ≡ before) × IsTrue (has (Other place))
HasCauses has before now (Err (Full length entry)) = (now ≡ before) × IsTrue (has (Full length entry))
HasCauses has before now (Err NoMemory) = (now ≡ before) × IsTrue (has NoMemory)

-- ---- what each call has besides the disk's fault

abbrev pub of_start : JournalFault → Bool
of_start NotAJournal = true
of_start _ = false

abbrev pub of_read : JournalFault → Bool
of_read (Entry place) = true
of_read NoMemory = true
of_read _ = false

abbrev pub of_entry : JournalFault → Bool
of_entry (Entry place) = true
of_entry _ = false

abbrev pub of_memory : JournalFault → Bool
of_memory NoMemory = true
of_memory _ = false

abbrev pub of_skip : JournalFault → Bool
of_skip (Other place) = true
of_skip _ = false

abbrev pub of_append : JournalFault → Bool
of_append (Full length entry) = true
of_append _ = false

abbrev pub of_none : JournalFault → Bool
of_none _ = false

-- ---- what is so where a fault comes

abbrev pub IfNotAJournal : {T : Type 0} → Result T JournalFault → Type 0 → Type 0
IfNotAJournal (Err NotAJournal) P = P
IfNotAJournal _ P = Unit {0}

abbrev pub IfEntry : {T : Type 0} → Result T JournalFault → (ℕ → Type 0) → Type 0
IfEntry (Err (Entry place)) P = P place
IfEntry _ P = Unit {0}

abbrev pub IfOther : {T : Type 0} → Result T JournalFault → (ℕ → Type 0) → Type 0
IfOther (Err (Other place)) P = P place
IfOther _ P = Unit {0}

abbrev pub IfFull : {T : Type 0} → Result T JournalFault → (ℕ → ℕ → Type 0) → Type 0
IfFull (Err (Full length entry)) P = P length entry
IfFull _ P = Unit {0}

abbrev pub IsFull : {T : Type 0} → Result T JournalFault → Type 0
IsFull (Err (Full length entry)) = Unit {0}
IsFull _ = ⊥
