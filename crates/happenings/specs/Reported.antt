-- What happens in the code, as the definitions have it.
use Rattle.std.specs.Prelude.{◌≡◌, ℕ, List, ◌++◌, map, Option, Some, None, option_map}
use Rattle.group_defs.specs.Events as group
use Rattle.trace_defs.specs.Outcomes as outcomes
use Rattle.trace_defs.specs.Happenings as plain
use Rattle.member_events.specs.Below.{signed}
use Rattle.member_events.specs.declared.events.Outcome.{Outcome}
use Rattle.member_state.specs.Events.{refusal, note, IsOutcome}
use Rattle.replay_defs.specs.Worlds as worlds
use Rattle.happenings.specs.declared.seen.Seen.{Seen}
use Rattle.happenings.specs.declared.stopped.Stopped.{Stopped}
use Rattle.happenings.specs.declared.stopped.Stopped.TheVariants.{NoSuchFrame, TooMuchSent}
use Rattle.happenings.specs.declared.reported.Handed.{Handed}
use Rattle.happenings.specs.declared.reported.Handed.TheVariants.{Payload, Frame, Bytes, Suspects, Joins, Renews, Ticks}
use Rattle.happenings.specs.declared.reported.Happening.{Happening}
use Rattle.happenings.specs.declared.reported.Happening.TheVariants.{Takes, Loses, Lies, Silent}
use Rattle.happenings.specs.declared.reported.Reported.{Reported}
use Rattle.happenings.specs.declared.reported.Reported.TheVariants.{Unasked, Kept}

-- ---- what happens

abbrev pub handed : Handed → plain.Handed
handed Payload = plain.Payload
handed (Frame number from) = plain.Frame number from
handed (Bytes from) = plain.Bytes from
handed (Suspects q) = plain.Suspects q
handed (Joins q) = plain.Joins q
handed Renews = plain.Renews
handed Ticks = plain.Ticks

-- what came of an event
abbrev pub seen : Seen → outcomes.Seen
seen r = record {
  verdict = refusal r.verdict;
  heard = r.heard;
  signed = map signed r.signed.items;
  spent = r.spent;
  sends = r.to.items;
  notes = map note r.notes.items;
}

abbrev pub happening : Happening → plain.Happening
happening (Takes at what first r) = plain.Takes at (handed what) first (seen r)
happening (Loses frame from to) = plain.Loses frame from to
happening (Lies signer statement frame to) = plain.Lies signer statement frame to
happening (Silent signer) = plain.Silent signer

-- this is seen of the outcome
pub record IsSeenOf (r : Outcome) (s : Seen) : Type 0 where
  pub verdict : s.verdict ≡ r.verdict
  pub heard : s.heard ≡ r.heard
  pub signed : s.signed ≡ r.signed
  pub spent : s.spent ≡ r.spent
  pub to : s.to.items ≡ map (λ out. out.to) r.sends.items
  pub notes : s.notes ≡ r.notes

-- what is seen of an outcome of the definitions is seen of it in the code
abbrev pub OutcomeIsSeen : Type 0
OutcomeIsSeen = (o : group.Outcome) (r : Outcome) (s : Seen) → IsOutcome o r → IsSeenOf r s → outcomes.seen o ≡ seen s

-- ---- what is reported

-- what was reported, where somebody asks
abbrev pub reported_of : Reported → Option (List plain.Happening)
reported_of Unasked = None
reported_of (Kept all) = Some (map happening all.items)

-- this was reported after what was reported before, where somebody asks
abbrev pub WasReported : Reported → List plain.Happening → Reported → Type 0
WasReported old what new = reported_of new ≡ option_map (λ before. before ++ what) (reported_of old)

-- ---- why a run stops

abbrev pub stopped : Stopped → worlds.WorldFault
stopped (NoSuchFrame event frame sent) = worlds.NoSuchFrame event frame sent
stopped (TooMuchSent event bytes) = worlds.TooMuchSent event bytes
