-- A turn, as clauses see it.
use Rattle.std.specs.Prelude.{ℕ, List}
use Rattle.member_events.specs.declared.events.Outcome.{Outcome}
use Rattle.journal_rp.specs.declared.turn.Turn.{Turn}

abbrev pub outcome_of : {S P : Type 0} → Turn S P → Outcome
outcome_of t = t.outcome

-- what the journal takes in: its entry after the entry's length, and the next gate, closed
abbrev pub staged_of : {S P : Type 0} → Turn S P → List ℕ
staged_of t = t.bytes.items

-- who took it
abbrev pub process_of : {S P : Type 0} → Turn S P → P
process_of t = t.process
