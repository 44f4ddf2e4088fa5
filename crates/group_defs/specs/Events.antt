-- One event: its refusals, and the process after it.
-- Names here (* for this crate alone):
--   Event, Turn
--   refusals: EventFault, no_next, outsider*, refusals, refusal
--   taking in: perceived_numbers, perceives, take_in
--   after the event: signing, after, run
--   what the event answers: Note, Outcome, is_tick, answers, note_if, notes, answered, outcome
--   journals: journalled, Fits, read_again, JournalGivesTheTurn
use Rattle.std.specs.Prelude.{ℕ, ◌+◌, ◌-◌, Bool, true, false, not, nat_lt, ◌==◌, List, [], ◌∷◌, ◌++◌, length, map, drop, if◌then◌else◌, Option, Some, None, option_to_list, slice_index_or, ◌≡◌}
use Rattle.std.specs.Option.{option_map_or}
use Rattle.message_defs.specs.Below.{first_that_holds, put, has}
use Rattle.message_defs.specs.Limits.{most_payload_bytes}
use Rattle.group_defs.specs.Views.{View, UpdateFault, is_member, next_fault}
use Rattle.message_defs.specs.Updates.{Update, Remove, Add, Renew, update_numbers}
use Rattle.message_defs.specs.Statements.{Claim}
use Rattle.message_defs.specs.Claims.{Frame, Claims, Wants, Faulty}
use Rattle.message_defs.specs.declared.FrameFault.{FrameFault}
use Rattle.group_defs.specs.Process.{Setting, Delivered, Process, keyed, earlier, delivered_from, places_in}
use Rattle.group_defs.specs.Hearing.{hear_all}
use Rattle.group_defs.specs.Due.{is_perceived}
use Rattle.group_defs.specs.Signing.{Signer, Signing, sign_all}
use Rattle.group_defs.specs.Settle.{decide, deliver, leave, settle}
use Rattle.group_defs.specs.Sending.{Bundle, Proof, Want, Sending, bundle, answer, others, sends_to, unless_empty}

-- what is handed to a process; of a frame, what its bytes say
pub data Event : Type 0 where
  Submit : (payload : List ℕ) → Event
  Hand : (from : ℕ) (frame : Frame) → Event
  Suspect : (process : ℕ) → Event
  Join : (process : ℕ) → Event
  RenewView : Event
  Tick : Event

-- an event, how many signatures may still be made, and who makes them
pub record Turn : Type 0 where
  pub event : Event
  pub allowance : ℕ
  pub signer : Signer

-- ---- refusals

-- why an event is refused
pub data EventFault : Type 0 where
  HaltedNow : (delivered cut : ℕ) → EventFault
  BadFrame : (fault : FrameFault) → EventFault
  Outsider : EventFault
  TooLong : EventFault
  Backlog : EventFault
  NoKey : EventFault
  NoNext : (fault : UpdateFault) → EventFault

-- the fault of `next`, where no view follows by this update
abbrev pub no_next : Process → Update → List (Bool × EventFault)
no_next p u = map (λ fault. (true, NoNext fault)) (option_to_list (next_fault p.pool.view u))

-- only members submit and perceive
abbrev pub outsider : Process → Bool × EventFault
outsider p = (not (is_member p.pool.view p.me), Outsider)

-- What can refuse an event of a process that has not halted, in order. A frame: its fault. A Submit: the process is no member of its
-- view; the payload has over 1,024 bytes; exactly 256 accepted payloads are not delivered yet. An update to be perceived: the process is
-- no member; the roster has no key of who is to join; no view follows by it.
abbrev pub refusals : Setting → Process → Event → List (Bool × EventFault)
refusals s p (Hand from (Faulty fault)) = (true, BadFrame fault) ∷ []
refusals s p (Hand from frame) = []
refusals s p (Submit payload) =
    outsider p
    ∷ (nat_lt most_payload_bytes (length payload), TooLong)
    ∷ (length p.accepted - (earlier p + delivered_from p.me p.delivered) == 256, Backlog)
    ∷ []
refusals s p (Suspect q) = outsider p ∷ no_next p (Remove q)
refusals s p (Join q) = outsider p ∷ (not (has (keyed s) q), NoKey) ∷ no_next p (Add q)
refusals s p RenewView = outsider p ∷ no_next p Renew
refusals s p Tick = []

-- the first refusal that holds; a process that has halted, beyond its cut, refuses every event
abbrev pub refusal : Setting → Process → Event → Option EventFault
refusal s p e = first_that_holds
    ((p.halted, HaltedNow (places_in p.delivered) (option_map_or (λ d. d.1.cut) p.decision 0)) ∷ refusals s p e)

-- ---- taking in

-- perceived updates are ordered by view number, then by update
abbrev pub perceived_numbers : ℕ × Update → List ℕ
perceived_numbers e = e.0 ∷ update_numbers e.1

-- rising, each once
abbrev pub perceives : Process → Update → Process
perceives p u =
    if is_perceived p (p.pool.view.number, u) then p
    else record p { perceived = put perceived_numbers (p.pool.view.number, u) p.perceived }

-- a payload is accepted, claims are heard one by one, and an update is perceived in the current view
abbrev pub take_in : Setting → Process → Event → Process
take_in s p (Submit payload) = record p { accepted = p.accepted ++ payload ∷ [] }
take_in s p (Hand from (Claims claims)) = hear_all s p claims
take_in s p (Hand from frame) = p
take_in s p (Suspect q) = perceives p (Remove q)
take_in s p (Join q) = perceives p (Add q)
take_in s p RenewView = perceives p Renew
take_in s p Tick = p

-- ---- after the event

-- the event is taken in, and then what is due is signed
abbrev pub signing : Setting → Process → Turn → Signing
signing s p t = sign_all s t.signer t.allowance (take_in s p t.event)

-- the process after the event: it takes it in, signs and settles; a refused event changes nothing
unfoldable pub after : Setting → Process → Turn → Process
after s p t = elim (refusal s p t.event) [ None ↦ settle s (signing s p t).now | Some fault ↦ p ]

-- the process after these events
unfoldable pub run : Setting → Process → List Turn → Process
run s p [] = p
run s p (t ∷ ts) = run s (after s p t) ts

-- ---- what the event answers

-- what is reported of an event
pub data Note : Type 0 where
  Delivers : (view : ℕ) (delivered : Delivered) → Note
  Installs : (view : View) → Note
  Liar : (process : ℕ) → Note
  Spent : Note
  Halts : (delivered cut : ℕ) → Note

-- what an event answers, apart from the process after it
pub record Outcome : Type 0 where
  pub verdict : Option EventFault
  pub heard : ℕ
  pub signed : List Claim
  pub spent : Bool
  pub sends : List Sending
  pub notes : List Note

-- the event is a Tick
abbrev pub is_tick : Event → Bool
is_tick Tick = true
is_tick _ = false

-- besides the Bundles: a Want of a process with a key is answered in Proofs, and a Tick asks the other members for the places that come
-- next
abbrev pub answers : Setting → Process → Event → List Sending
answers s q (Hand from (Wants x k)) = if has (keyed s) from then unless_empty (answer q x k) Proof (from ∷ []) else []
answers s q Tick = sends_to (others q q.pool.view) (Want q.pool.view.number (places_in q.delivered))
answers s q _ = []

-- the note, where the test holds
abbrev pub note_if : Bool → Note → List Note
note_if b note = if b then note ∷ [] else []

-- of an event that takes p through `one`, signed, and `done`, delivered, to q
abbrev pub notes : Process → Signing → Process → Process → List Note
notes p one done q =
    map (Delivers p.pool.view.number) (drop (length p.delivered) done.delivered)
    ++ note_if (nat_lt (length p.left) (length q.left)) (Installs q.pool.view)
    ++ map (λ pair. Liar pair.1.signer) (drop (length p.conflicts) q.conflicts)
    ++ note_if one.spent Spent
    ++ note_if q.halted (Halts (places_in q.delivered) (option_map_or (λ d. d.1.cut) q.decision 0))

-- the outcome of an event that is not refused: heard and signed, it settles to q
abbrev pub answered : Setting → Process → Turn → Signing → Outcome
answered s p t one =
    let done : Process = deliver (decide s one.now) in
    let q : Process = leave done in
    record {
      verdict = None;
      heard = length (take_in s p t.event).pool.heard - length p.pool.heard;
      signed = drop (length p.signed) one.now.signed;
      spent = one.spent;
      sends = unless_empty (bundle (is_tick t.event) p one.now) Bundle (others p p.pool.view) ++ answers s q t.event;
      notes = notes p one done q;
    }

-- what the event answers; where it is refused, its fault alone
abbrev pub outcome : Setting → Process → Turn → Outcome
outcome s p t = elim (refusal s p t.event) [
  | None ↦ answered s p t (signing s p t)
  | Some fault ↦ record { verdict = Some fault; heard = 0; signed = []; spent = false; sends = []; notes = [] }
]

-- ---- journals

-- the same event with an entry's signatures
abbrev pub journalled : Process → Event → List (List ℕ) → Turn
journalled p e signatures = record {
  event = e;
  allowance = length signatures;
  signer = λ used body. slice_index_or signatures (used - length p.signed) [];
}

-- all of the entry's signatures are used, and another was due exactly where it says so
abbrev pub Fits : Setting → Process → Event → List (List ℕ) → Bool → Type 0
Fits s p e signatures spent =
    let o = outcome s p (journalled p e signatures) in
    (length o.signed ≡ length signatures) × (o.spent ≡ spent)

-- the turn read from a journal that keeps the signatures of a live one
abbrev pub read_again : Setting → Process → Turn → Turn
read_again s p t = journalled p t.event (map (λ c. c.signature) (outcome s p t).signed)

-- it fits, and gives the process and the outcome of the live one
abbrev pub JournalGivesTheTurn : Type 0
JournalGivesTheTurn = (s : Setting) (p : Process) (t : Turn)
    → (after s p (read_again s p t) ≡ after s p t) × (outcome s p (read_again s p t) ≡ outcome s p t)
    × Fits s p t.event (map (λ c. c.signature) (outcome s p t).signed) (outcome s p t).spent
