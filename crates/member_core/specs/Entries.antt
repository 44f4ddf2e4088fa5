-- What becomes of a process that absorbs an entry of its journal.
use Rattle.std.specs.Prelude.{ℕ, ◌≤◌, Bool, List, length, IsTrue}
use Rattle.message_defs.specs.Limits.{last_process}
use Rattle.std.specs.List.{list_all}
use Rattle.group_defs.specs.Process.{Setting, Process}
use Rattle.group_defs.specs.Hearing.{is_valid}
use Rattle.group_defs.specs.Events as defs
use Rattle.member_events.specs.declared.events.Event.{Event}
use Rattle.member_events.specs.declared.events.Event.TheVariants as events
use Rattle.member_events.specs.declared.events.Outcome.{Outcome}
use Rattle.member_signing.specs.States.{IsOutcome}
use Rattle.member_core.specs.declared.member.Core.{Core}
use Rattle.member_core.specs.Cores.{IsCore}

-- The process may have written the entry of this event, with these signatures and this spent byte, while `left` signatures could still be
-- made: the entry fits, each signature is valid for its claim, and there are no more of them.
pub record Agrees (s : Setting) (p : Process) (left : ℕ) (e : defs.Event) (signatures : List (List ℕ)) (spent : Bool) : Type 0 where
  pub fits : defs.Fits s p e signatures spent
  pub valid : IsTrue (list_all (is_valid s) (defs.outcome s p (defs.journalled p e signatures)).signed)
  pub few : length signatures ≤ left

-- The entry agrees, the new core is the process after the entry's turn, and the outcome is that of the turn.
pub record Absorbs {G : Type 0} (used : G → ℕ) (s : Setting) (p : Process) (left : ℕ) (new : Core G) (e : defs.Event)
    (signatures : List (List ℕ)) (spent : Bool) (r : Outcome) : Type 0 where
  pub agrees : Agrees s p left e signatures spent
  pub core : IsCore used s (defs.after s p (defs.journalled p e signatures)) new
  pub outcome : IsOutcome (defs.outcome s p (defs.journalled p e signatures)) r

-- the processes that the event names are numbered from 0 to 63
abbrev pub NamesProcesses : Event → Type 0
NamesProcesses (events.Frame from bytes) = from ≤ last_process
NamesProcesses (events.Suspect q) = q ≤ last_process
NamesProcesses (events.Join q) = q ≤ last_process
NamesProcesses _ = Unit {0}
