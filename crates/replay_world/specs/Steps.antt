-- What is kept of an event at a process.
use Rattle.std.specs.Prelude.{◌≡◌, ℕ, true, if◌then◌else◌, [], ◌∷◌, ◌++◌, fold, Some, None, slice_get}
use Rattle.byte_defs.specs.Members.{has}
use Rattle.group_defs.specs.Process.{Setting}
use Rattle.group_defs.specs.Events as group
use Rattle.replay_defs.specs.Schedules.{Header}
use Rattle.replay_defs.specs.Worlds as plain
use Rattle.member_events.specs.declared.events.Outcome.{Outcome}
use Rattle.happenings.specs.Events.{IsOutcome}
use Rattle.replay_world.specs.Traffic.{IsTooMuch, numbers}
use Rattle.replay_world.specs.Worlds.{Shows}
use Rattle.replay_world.specs.declared.world.World.{World}
use Rattle.replay_world.specs.declared.fault.WorldFault.{WorldFault}

-- the refusal and the spent key are kept, and what it sends goes out
abbrev pub noted : ℕ → group.Outcome → plain.World → plain.World
noted p o v = fold (plain.send_all p) (record v {
  refused = v.refused ++ plain.refused_if v p o.verdict;
  spent = if o.spent then v.spent ++ p ∷ [] else v.spent;
}) o.sends

-- where the old world shows one with this player, the new one shows it with what came of the event
abbrev pub Notes : World → World → ℕ → Outcome → Type 0
Notes old new p r = (h : Header) (v : plain.World) (o : group.Outcome) → Shows h old v → has (numbers v) p ≡ true → IsOutcome o r
    → Shows h new (noted p o v)

-- where the old world shows one with this player, what it sends by this outcome is too much
abbrev pub NotesTooMuch : World → ℕ → Outcome → WorldFault → Type 0
NotesTooMuch old p r fault = (h : Header) (v : plain.World) (o : group.Outcome) → Shows h old v → has (numbers v) p ≡ true → IsOutcome o r
    → IsTooMuch fault (noted p o v)

-- a delivery that waits no more is made, or lost
abbrev pub arrives : Setting → ℕ → plain.World → ℕ × ℕ → plain.World
arrives s mask v d = if plain.is_in mask d.1 then plain.delivers s v d.1 d.0 else v

-- the oldest delivery, where one waits
abbrev pub oldest_arrives : Setting → ℕ → plain.World → plain.World
oldest_arrives s mask v = elim (slice_get v.pending 0) [ None ↦ v | Some d ↦ plain.next_delivery s mask v d ]
