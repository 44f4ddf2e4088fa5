-- What settling makes of a process and its state, step by step.
use Rattle.std.specs.Prelude.{◌≡◌, ◌<◌, ℕ, List, Some, false}
use Rattle.message_defs.specs.Updates.{Value}
use Rattle.message_defs.specs.Statements.{Batch}
use Rattle.group_defs.specs.Process as defs
use Rattle.group_defs.specs.Process.{Setting, Process, places_in}
use Rattle.group_defs.specs.Settle.{deliverable, limit}
use Rattle.member_events.specs.declared.events.Note.{Note}
use Rattle.member_state.specs.Below.{batch_in, Phase}
use Rattle.member_state.specs.declared.state.ProcessState.{ProcessState}
use Rattle.member_state.specs.States.{IsStateOf}
use Rattle.member_settling.specs.Reported.{ReportsDelivered, ReportsInstalled}

-- ---- delivering

-- the place below the limit that comes next delivers these, and this is its batch
pub record ComesNext (p : Process) (ds : List defs.Delivered) (b : Batch) : Type 0 where
  pub below : places_in p.delivered < limit p
  pub delivers : deliverable p ≡ Some ds
  pub batch : batch_in ds ≡ b

-- the state is that of q, which delivered more than p, and each of these deliveries is reported
pub record Delivers (s : Setting) (p q : Process) (st : ProcessState) (was now : List Note) : Type 0 where
  pub state : IsStateOf s q st
  pub reported : ReportsDelivered p q was now

-- ---- leaving

-- the state in another phase
abbrev pub in_phase : Phase → ProcessState → ProcessState
in_phase phase st = record st { phase = phase }

-- the state, but for its phase, is that of a process whose view is decided so
pub record IsLeaving (s : Setting) (p : Process) (d : ℕ × Value) (st : ProcessState) : Type 0 where
  pub phase : Phase
  pub state : IsStateOf s p (in_phase phase st)
  pub decision : p.decision ≡ Some d
  pub runs : p.halted ≡ false

-- a process whose view is decided as d, with its setting, of which this is the state, but for its phase
pub record HasLeaving (d : ℕ × Value) (st : ProcessState) : Type 0 where
  pub setting : Setting
  pub process : Process
  pub leaving : IsLeaving setting process d st

-- the state is, but for its phase, that of some process whose view is decided as d
abbrev pub CanLeave : ℕ × Value → ProcessState → Type 0
CanLeave d st = ∥ HasLeaving d st ∥₁

-- the state is that of q, which came of p, and a view that was installed is reported
pub record Leaves (s : Setting) (p q : Process) (st : ProcessState) (was now : List Note) : Type 0 where
  pub state : IsStateOf s q st
  pub reported : ReportsInstalled p q was now
