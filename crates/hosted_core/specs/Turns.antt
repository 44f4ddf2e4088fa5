-- What a hosted process took, and what a turn of it is.
use Rattle.std.specs.Prelude.{◌≡◌, ℕ, Bool, List, Some, None}
use Rattle.group_defs.specs.Process.{Setting, Process}
use Rattle.group_defs.specs.Events as defs
use Rattle.member_events.specs.declared.events.Event.{Event}
use Rattle.member_events.specs.declared.events.Outcome.{Outcome}
use Rattle.journal_defs.specs.Entries as plain
use Rattle.journal_defs.specs.Entries.{IsEntry}
use Rattle.journal_defs.specs.Crashes.{staged}
use Rattle.journal_entries.specs.Views.{event as plain_event, turn_entry}
use Rattle.journal_rp.specs.Turns.{outcome_of, process_of, staged_of}
use Rattle.member_core.specs.declared.member.Core.{Core}
use Rattle.member_core.specs.Cores.{IsCore, Steps, me_of}
use Rattle.member_core.specs.Events.{event as event_of, fault as fault_of, IsOutcome}
use Rattle.hosted_core.specs.declared.hosted.Hosted.{Hosted}
use Rattle.hosted_core.specs.declared.taking.Taken.{Taken}
use Rattle.hosted_core.specs.declared.taking.Taken.TheVariants.{Refused, Lost, Turn}
use Rattle.hosted_core.specs.Hosts.{core_of}

-- This outcome is what came of this event, which the process took last: some core stepped to this one with it, and the entry of
-- it has a spelling.
pub record Took {G : Type 0} (used total : G → ℕ) (signature : G → ℕ → List ℕ → List ℕ) (h : Hosted G) (e : Event) (r : Outcome)
    : Type 0 where
  pub before : Core G
  pub rule : List ℕ → List ℕ → List ℕ → Bool
  pub steps : (s : Setting) (p : Process) → IsCore used s p before → s.valid ≡ rule
      → Steps used total signature s p before (core_of h) (event_of e) r
  pub entry : IsEntry (turn_entry (me_of (core_of h)) (plain_event e) r)

-- the process, after the event or as it was
abbrev pub hosted_in : {G : Type 0} → Taken G → Hosted G
hosted_in (Refused h fault) = h
hosted_in (Lost h) = h
hosted_in (Turn turn) = process_of turn

-- What has become of process p in this turn. A refused event and a lost one leave it as it was. Of one that was taken the outcome is
-- the definitions', and its entry has this process, this event and this outcome.
abbrev pub TakesTurn : {G : Type 0} → (G → ℕ) → Setting → Process → defs.Turn → plain.Event → Taken G → Type 0
TakesTurn used s p t e (Refused h fault) = IsCore used s p (core_of h) × (defs.refusal s p t.event ≡ Some (fault_of fault))
TakesTurn used s p t e (Lost h) = IsCore used s p (core_of h)
TakesTurn used s p t e (Turn turn) =
    IsCore used s (defs.after s p t) (core_of (process_of turn)) × (defs.refusal s p t.event ≡ None)
    × IsOutcome (defs.outcome s p t) (outcome_of turn)
    × (staged_of turn ≡ staged (turn_entry p.me e (outcome_of turn))) × IsEntry (turn_entry p.me e (outcome_of turn))
