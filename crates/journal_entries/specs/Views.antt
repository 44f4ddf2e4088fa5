-- Events and entries of the code, as plain data.
use Rattle.std.specs.Prelude.{ℕ, List, map}
use Rattle.journal_defs.specs.Entries as plain
use Rattle.member_events.specs.declared.events.Event.{Event}
use Rattle.member_events.specs.declared.events.Event.TheVariants.{Submit, Frame, Suspect, Join, Renew, Tick}
use Rattle.member_events.specs.declared.events.Outcome.{Outcome}
use Rattle.member_events.specs.Below.{OwnClaim}
use Rattle.member_events.specs.declared.entry.Entry.{Entry}
use Rattle.member_events.specs.Kept.{signatures_left}

abbrev pub event : Event → plain.Event
event (Submit payload) = plain.Submit payload.now
event (Frame from bytes) = plain.Frame from bytes.now
event (Suspect process) = plain.Suspect process
event (Join process) = plain.Join process
event Renew = plain.Renew
event Tick = plain.Tick

abbrev pub entry : Entry → plain.Entry
entry e = record { process = e.process; event = event e.event; spent = e.spent; signatures = signatures_left e.signatures }

-- the signatures of claims, in order
abbrev pub signatures_of : List OwnClaim → List (List ℕ)
signatures_of claims = map (λ c. c.signature) claims

-- what a journal keeps of an event that a process took with this outcome
abbrev pub turn_entry : ℕ → plain.Event → Outcome → plain.Entry
turn_entry me e outcome = record { process = me; event = e; spent = outcome.spent; signatures = signatures_of outcome.signed.items }
