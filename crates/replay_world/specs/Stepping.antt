-- What one process's event leaves.
use Rattle.std.specs.Prelude.{◌≡◌, ℕ, Bool, if◌then◌else◌, List, [], ◌∷◌, ◌++◌, Some, slice_get, slice_set}
use Rattle.signature_defs.specs.Schemes.{is_valid}
use Rattle.group_defs.specs.Process.{Setting}
use Rattle.group_defs.specs.Events.{outcome}
use Rattle.replay_defs.specs.Worlds as plain
use Rattle.replay_defs.specs.Worlds.{with_turn, turn_of}
use Rattle.sig_scheme.specs.declared.any_scheme.AnyScheme.{AnyScheme}
use Rattle.sig_scheme.specs.Views.{scheme as scheme_of}
use Rattle.member_events.specs.declared.events.Event.{Event}
use Rattle.member_events.specs.declared.events.EventVerdict.{EventVerdict}
use Rattle.member_events.specs.declared.events.EventVerdict.TheVariants as verdicts
use Rattle.member_events.specs.declared.events.Outcome.{Outcome}
use Rattle.happenings.specs.Events.{event, IsOutcome}
use Rattle.happenings.specs.Events.{fault as fault_of}
use Rattle.replay_cast.specs.Players.{ArePlayers}
use Rattle.replay_cast.specs.declared.player.Player.{Player}
use Rattle.replay_world.specs.declared.world.Refused.{Refused}

abbrev pub refused : Refused → plain.Refused
refused r = record { event = r.event; process = r.process; fault = fault_of r.fault }

-- one turn more of the player at a place, and what came of it
pub record SteppedAt (s : Setting) (cs : List plain.Player) (new : List Player) (i : ℕ) (c : plain.Player) (e : Event)
    (r : Outcome) : Type 0 where
  pub players : ArePlayers s new (slice_set cs i (with_turn s (turn_of c (event e)) c))
  pub outcome : IsOutcome (outcome s c.now (turn_of c (event e))) r

-- the process at this place takes the event
abbrev pub StepsAt : AnyScheme → List Player → List Player → ℕ → Event → Outcome → Type 0
StepsAt scheme old new i e r = (s : Setting) (cs : List plain.Player) (c : plain.Player) → s.valid ≡ is_valid (scheme_of scheme)
    → ArePlayers s old cs → slice_get cs i ≡ Some c → SteppedAt s cs new i c e r

-- the refusal, if it is one, comes after the others
abbrev pub Refuses : List Refused → ℕ → ℕ → EventVerdict → List Refused → Type 0
Refuses old event p verdicts.Taken new = new ≡ old
Refuses old event p (verdicts.Refused fault) new = new ≡ old ++ record { event = event; process = p; fault = fault } ∷ []

-- the process comes after the others, if it met a spent key
abbrev pub Spends : List ℕ → ℕ → Bool → List ℕ → Type 0
Spends old p spent new = new ≡ (if spent then old ++ p ∷ [] else old)
