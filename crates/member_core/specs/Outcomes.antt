-- What came of an event, in its two halves: up to what it signs and sends of that, and from settling on.
use Rattle.std.specs.Prelude.{◌≡◌, ℕ, ◌-◌, ◌≤◌, nat_lt, Bool, true, false, List, [], ◌++◌, length, map, drop, Some}
use Rattle.std.specs.Option.{option_map_or}
use Rattle.std.specs.List.{flat_map}
use Rattle.message_defs.specs.Statements.{Claim}
use Rattle.message_defs.specs.Packing.{signed_of}
use Rattle.group_defs.specs.Process.{Setting, Process, places_in}
use Rattle.group_defs.specs.Settle.{decide, deliver, settle}
use Rattle.group_defs.specs.Sending.{Bundle, bundle, others, unless_empty}
use Rattle.group_defs.specs.Events as defs
use Rattle.event_laws.specs.Slots.{most_signed}
use Rattle.member_events.specs.Below.{signed}
use Rattle.member_events.specs.declared.events.Outcome.{Outcome}
use Rattle.member_events.specs.declared.events.EventVerdict.TheVariants.{Taken}
use Rattle.member_signing.specs.States.{ProcessState, IsStateOf, frame_to, frames_to, note, IsOutcome}

-- what an event answers that is refused: its fault alone
abbrev pub refusing : defs.EventFault → defs.Outcome
refusing fault = record { verdict = Some fault; heard = 0; signed = []; spent = false; sends = []; notes = [] }

-- ---- what is reported last

-- a process that has halted reports it
abbrev pub halts : Process → List defs.Note
halts q = defs.note_if q.halted (defs.Halts (places_in q.delivered) (option_map_or (λ d. d.1.cut) q.decision 0))

-- the signers of the pairs that are there from this place on
abbrev pub liars_from : ℕ → List (Claim × Claim) → List defs.Note
liars_from place pairs = map (λ pair. defs.Liar pair.1.signer) (drop place pairs)

-- ---- the halves

-- Process p has taken the event in and signed: this is its state then, `many` signatures are used, no more than a view has slots, and the
-- outcome has what was heard and signed, whether a signature was missing, and the frames of the Bundle, but no notes.
pub record HasBegun (s : Setting) (p : Process) (t : defs.Turn) (st : ProcessState) (many : ℕ) (r : Outcome) : Type 0 where
  pub state : IsStateOf s (defs.signing s p t).now st
  pub used : length (defs.signing s p t).now.signed ≡ many
  pub few : length (drop (length p.signed) (defs.signing s p t).now.signed) ≤ most_signed
  pub verdict : r.verdict ≡ Taken
  pub heard : r.heard ≡ length (defs.take_in s p t.event).pool.heard - length p.pool.heard
  pub signed_now : map signed r.signed.items ≡ map signed_of (drop (length p.signed) (defs.signing s p t).now.signed)
  pub spent : (defs.signing s p t).spent ≡ r.spent
  pub sends : map frame_to r.sends.items
      ≡ flat_map frames_to (unless_empty (bundle (defs.is_tick t.event) p (defs.signing s p t).now) Bundle (others p p.pool.view))
  pub notes : map note r.notes.items ≡ []

-- Process p, which has signed, has settled: this is its state then, the outcome has more frames that answer the event, and more notes, of
-- conflicts those from this pair on.
pub record HasEnded (s : Setting) (p : Process) (e : defs.Event) (pairs : ℕ) (st : ProcessState) (was now : Outcome) : Type 0 where
  pub state : IsStateOf s (settle s p) st
  pub verdict : now.verdict ≡ was.verdict
  pub heard : now.heard ≡ was.heard
  pub signed_now : now.signed ≡ was.signed
  pub spent : now.spent ≡ was.spent
  pub sends : map frame_to now.sends.items ≡ map frame_to was.sends.items ++ flat_map frames_to (defs.answers s (settle s p) e)
  pub notes : map note now.notes.items ≡ map note was.notes.items
      ++ map (defs.Delivers p.pool.view.number) (drop (length p.delivered) (deliver (decide s p)).delivered)
      ++ defs.note_if (nat_lt (length p.left) (length (settle s p).left)) (defs.Installs (settle s p).pool.view)
      ++ liars_from pairs (settle s p).conflicts
      ++ defs.note_if was.spent defs.Spent
      ++ halts (settle s p)

-- Process p has taken its turn: this is its state then, `many` signatures are used, no more than a view has slots, and the outcome is that
-- of the turn.
pub record HasTaken (s : Setting) (p : Process) (t : defs.Turn) (st : ProcessState) (many : ℕ) (r : Outcome) : Type 0 where
  pub state : IsStateOf s (defs.after s p t) st
  pub used : length (defs.after s p t).signed ≡ many
  pub few : length (defs.outcome s p t).signed ≤ most_signed
  pub outcome : IsOutcome (defs.outcome s p t) r

-- an update is asked for
abbrev pub is_asked : defs.Event → Bool
is_asked (defs.Suspect q) = true
is_asked (defs.Join q) = true
is_asked defs.RenewView = true
is_asked _ = false
