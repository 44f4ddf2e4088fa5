-- What a phase tells of a process.
use Rattle.std.proofs.Common.{◌≡◌, None, false, refl}
use Rattle.group_defs.specs.Process.{Process}
use Rattle.group_defs.specs.Settle as defs
use Rattle.member_settling.specs.Below.{DecidedView as Decided, HaltedView as Halted, Phase, IsIn}
use Rattle.member_settling.specs.Phases.{Observing, OpenView, ClosingView, DecidedView, HaltedView}
use Rattle.member_settling.proofs.Phases.{undecided, observing, open_, closing, runs}

-- who is in no phase that is decided has decided nothing
pub none-decided : (phase : Phase) (p : Process) → IsIn phase p → ((d : Decided) → phase ≡ DecidedView d → ⊥)
    → ((h : Halted) → phase ≡ HaltedView h → ⊥) → p.decision ≡ None
none-decided (Observing o) p is decided halted = (undecided p defs.Observing observing is).1
none-decided (OpenView o) p is decided halted = (undecided p defs.OpenView open_ is).1
none-decided (ClosingView k) p is decided halted = (undecided p defs.ClosingView closing is.phase).1
none-decided (DecidedView d) p is decided halted = absurd (decided d refl)
none-decided (HaltedView h) p is decided halted = absurd (halted h refl)

-- and who is not in that of the halted has not halted
pub not-halted : (phase : Phase) (p : Process) → IsIn phase p → ((h : Halted) → phase ≡ HaltedView h → ⊥) → p.halted ≡ false
not-halted (Observing o) p is halted = (undecided p defs.Observing observing is).0
not-halted (OpenView o) p is halted = (undecided p defs.OpenView open_ is).0
not-halted (ClosingView k) p is halted = (undecided p defs.ClosingView closing is.phase).0
not-halted (DecidedView d) p is halted = runs p is.phase
not-halted (HaltedView h) p is halted = absurd (halted h refl)
