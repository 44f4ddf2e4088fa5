-- What becomes of a process of the cast in a turn.
use Rattle.std.specs.Prelude.{◌≡◌, ℕ, Some, None}
use Rattle.group_defs.specs.Process.{Process}
use Rattle.group_defs.specs.Events.{after, refusal}
use Rattle.journal_defs.specs.Entries.{Event, IsEntry}
use Rattle.journal_defs.specs.Crashes.{staged}
use Rattle.journal_rp.specs.Turns.{outcome_of, process_of, staged_of}
use Rattle.sig_scheme.specs.declared.any_signer.AnySigner.{AnySigner}
use Rattle.hosted_core.specs.Cores.{fault as fault_of, IsOutcome}
use Rattle.hosted_core.specs.declared.taking.Taken.{Taken}
use Rattle.hosted_core.specs.declared.taking.Taken.TheVariants.{Refused, Lost, Turn}
use Rattle.node_defs.specs.Casts as node
use Rattle.node_defs.specs.Casts.{Cast, entry_for, handed, live}
use Rattle.node_hosts.specs.Places.{IsHosted}

-- What has become of process q of the cast, which was p, in a turn of this event. A refused event and a lost one leave it as it was. One
-- that was taken is the node's live turn: the outcome is that of the cast, and the bytes for the journal are those of the cast's entry.
abbrev pub TakesLive : Cast → ℕ → Process → Event → Taken AnySigner → Type 0
TakesLive c q p e (Refused h fault) = IsHosted c q p h × (refusal c.setting p (handed e) ≡ Some (fault_of fault))
TakesLive c q p e (Lost h) = IsHosted c q p h
TakesLive c q p e (Turn turn) =
    IsHosted c q (after c.setting p (live c p e)) (process_of turn) × (refusal c.setting p (handed e) ≡ None)
    × IsOutcome (node.outcome_of c p e) (outcome_of turn) × (staged_of turn ≡ staged (entry_for c p e)) × IsEntry (entry_for c p e)
