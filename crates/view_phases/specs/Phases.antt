-- The phases of the code, and which process is in which.
use Rattle.std.specs.Prelude.{◌≡◌, ℕ, List, Option, Some, None, if◌then◌else◌, option_and_then}
use Rattle.message_defs.specs.Updates.{Value}
use Rattle.message_defs.specs.Statements.{Statement, End, EndAt}
use Rattle.rp_base.specs.Views.{value}
use Rattle.group_defs.specs.Views.{View, is_member, is_possible}
use Rattle.group_defs.specs.Process.{Process, places_in}
use Rattle.group_defs.specs.Certified.{readied, own_on}
use Rattle.group_defs.specs.Settle as defs
use Rattle.view_phases.specs.declared.phases.Decision.{Decision}
use Rattle.view_phases.specs.declared.phases.ClosingView.{ClosingView}
use Rattle.view_phases.specs.declared.phases.DecidedView.{DecidedView}
use Rattle.view_phases.specs.declared.phases.HaltedView.{HaltedView}
use Rattle.view_phases.specs.declared.phases.Phase.{Phase}
use Rattle.view_phases.specs.declared.phases.Phase.TheVariants.{Observing, OpenView, ClosingView as Closing, DecidedView as Decided, HaltedView as Halted}
use Rattle.view_phases.specs.declared.phases.PhaseWord.{PhaseWord}
use Rattle.view_phases.specs.declared.phases.PhaseWord.TheVariants as words

-- the phase of this name
abbrev pub word : PhaseWord → defs.Phase
word words.Observing = defs.Observing
word words.OpenView = defs.OpenView
word words.ClosingView = defs.ClosingView
word words.DecidedView = defs.DecidedView
word words.HaltedView = defs.HaltedView

-- the phase of the definitions that a phase of the code is
abbrev pub as_phase : Phase → defs.Phase
as_phase (Observing o) = defs.Observing
as_phase (OpenView o) = defs.OpenView
as_phase (Closing c) = defs.ClosingView
as_phase (Decided d) = defs.DecidedView
as_phase (Halted h) = defs.HaltedView

-- the rank and the value
abbrev pub decision_of : Decision → ℕ × Value
decision_of d = (d.rank, value d.value)

-- what decided the view
abbrev pub decided : DecidedView → ℕ × Value
decided d = decision_of d.decision

-- ---- which process is in which phase

-- process p is in phase c: a member that has signed its End, which says the length c keeps
pub record IsClosing (c : ClosingView) (p : Process) : Type 0 where
  pub phase : defs.phase_of p ≡ defs.ClosingView
  pub length : own_on p (EndAt p.pool.view.number) ≡ Some (End p.pool.view.number c.length)

-- process p is in phase d: its view is decided as d keeps it, and p has not left it
pub record IsDecided (d : DecidedView) (p : Process) : Type 0 where
  pub phase : defs.phase_of p ≡ defs.DecidedView
  pub decision : p.decision ≡ Some (decided d)

-- process p is in phase h: it has halted, and h keeps what decided the view and how many places p delivered
pub record IsHalted (h : HaltedView) (p : Process) : Type 0 where
  pub phase : defs.phase_of p ≡ defs.HaltedView
  pub decision : p.decision ≡ Some (decision_of h.decision)
  pub delivered : places_in p.delivered ≡ h.delivered

-- the process is in this phase, and the phase keeps what is the process's
abbrev pub IsIn : Phase → Process → Type 0
IsIn (Observing o) p = defs.phase_of p ≡ defs.Observing
IsIn (OpenView o) p = defs.phase_of p ≡ defs.OpenView
IsIn (Closing c) p = IsClosing c p
IsIn (Decided d) p = IsDecided d p
IsIn (Halted h) p = IsHalted h p

-- ---- deciding and settling

-- what a Ready decides in the view: its rank and value, where the value's update is possible there
abbrev pub decides : List ℕ → View → Statement → Option (ℕ × Value)
decides keyed v st = option_and_then (λ d. if is_possible keyed v d.1.update then Some d else None) (readied st)

-- how many places count as delivered: a member's own, and the cut of one who is no member
abbrev pub counts : Process → DecidedView → ℕ
counts p d = if is_member p.pool.view p.me then places_in p.delivered else (decided d).1.cut
