-- Which stop a fault of the journal is, and whose fault it is.
use Rattle.std.proofs.Common.{◌≡◌, ℕ, Bool, Err, refl, sym, subst}
use Rattle.journal_rp.specs.declared.fault.JournalFault.{JournalFault}
use Rattle.journal_rp.specs.declared.fault.JournalFault.TheVariants.{DiskFault, NotAJournal, Entry, Other, Full, NoMemory}
use Rattle.journal_rp.specs.Answers.{HasCauses, of_none}
use Rattle.node_defs.specs.Lines as lines
use Rattle.node_service.specs.Causes.{StopsByDisk, stop_of_fault}

-- a stop by a fault of the journal has its cause
pub by-fault : (T : Type 0) (has : JournalFault → Bool) (before now : ℕ) (fault : JournalFault) (why : lines.Stop)
    → HasCauses {T = T} has before now (Err fault) → why ≡ stop_of_fault fault → StopsByDisk before now why
by-fault T has before now fault why causes is = subst (StopsByDisk before now) (sym is) (go fault causes)
  where
    go : (f : JournalFault) → HasCauses {T = T} has before now (Err f) → StopsByDisk before now (stop_of_fault f)
    go DiskFault cause = cause
    go NotAJournal cause = cause.0
    go (Entry place) cause = cause.0
    go (Other place) cause = cause.0
    go (Full length entry) cause = cause.0
    go NoMemory cause = cause.0

-- a call that has no other fault stops by the disk
pub by-disk : (T : Type 0) (before now : ℕ) (fault : JournalFault) → HasCauses {T = T} of_none before now (Err fault)
    → stop_of_fault fault ≡ lines.DiskFailed
by-disk T before now DiskFault cause = refl
by-disk T before now NotAJournal cause = absurd cc
by-disk T before now (Entry place) cause = absurd cc
by-disk T before now (Other place) cause = absurd cc
by-disk T before now (Full length entry) cause = absurd cc
by-disk T before now NoMemory cause = absurd cc

-- what does not stop by the disk has its cause, where the disk's count stays
pub by-no-disk : (before now : ℕ) (why : lines.Stop) → now ≡ before → ((count : ℕ) → StopsByDisk count count why) → StopsByDisk before now why
by-no-disk before now why still never = subst (λ n. StopsByDisk before n why) (sym still) (never before)
