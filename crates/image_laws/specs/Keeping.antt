-- What each event keeps of a process, so that its image is kept: the seven facts.
-- Names here (* for this crate alone):
--   HeardFits*, HeardIsKept*, SignedFits*, SignedIsKept*, InRange, PlacedFits, PlacedIsKept*, DecisionFits*, DecisionIsKept*, LeftFits*,
--     LeftIsKept*, AcceptedFits, AcceptedIsKept*, PerceivedFits*, PerceivedIsKept*
use Rattle.std.specs.Prelude.{◌≡◌, ◌≢◌, ◌↔◌, ℕ, ◌+◌, ◌-◌, ◌<◌, ◌≤◌, true, length, All, AllPairs, Some, is_some, IsTrue, [], map, IsFalse}
use Rattle.std.specs.Option.{option_map_or}
use Rattle.message_defs.specs.Limits.{last_number, most_messages, most_places, most_payload_bytes}
use Rattle.message_defs.specs.Updates.{Value}
use Rattle.message_defs.specs.Statements.{Statement, Order, Place, Ready, Conflicts, slot_of, view_of}
use Rattle.group_defs.specs.Views.{IsView, is_member, is_possible}
use Rattle.group_defs.specs.Process.{Setting, Process, keyed, deliveries_of, earlier, delivered_from, places_in}
use Rattle.group_defs.specs.Accounts.{IsByPlace, batch_at}
use Rattle.group_defs.specs.Family.{claims_in}
use Rattle.group_defs.specs.Certified.{is_certified, heard_on, payload_at, place_at}
use Rattle.group_defs.specs.Hearing.{is_valid}
use Rattle.group_defs.specs.Events.{Turn, after}
use Rattle.image_defs.specs.Images.{left_by, view_behind}
use Rattle.image_defs.specs.Kept.{AreLeft, CommitsLast, AreHeard, WasHeard}

-- 2. What is heard in the view, and was heard in the one before, is a heard list; of each pair of conflicting claims both are one signer's,
-- valid, and conflict; and each signer has one pair.
pub record HeardFits (s : Setting) (p : Process) : Type 0 where
  pub heard : AreHeard s p
  pub was_heard : WasHeard s p p.previous
  pub conflicts : All (λ e. (e.0.signer ≡ e.1.signer) × Conflicts e.0 e.1 × IsTrue (is_valid s e.0) × IsTrue (is_valid s e.1)) p.conflicts
  pub one_each : AllPairs (λ e d. e.0.signer ≢ d.0.signer) p.conflicts

-- each event keeps it, where the signatures that it makes are valid
abbrev pub HeardIsKept : Type 0
HeardIsKept = (s : Setting) (p : Process) (t : Turn) → All (λ c. IsTrue (is_valid s c)) (after s p t).signed → HeardFits s p
    → HeardFits s (after s p t)

-- 3. Each signed claim is the process's own, of no later view, and valid; each slot is signed once; and what it signed in its view it has
-- heard of itself there.
pub record SignedFits (s : Setting) (p : Process) : Type 0 where
  pub own : All (λ c. (c.signer ≡ p.me) × (view_of c.statement ≤ p.pool.view.number) × IsTrue (is_valid s c)) p.signed
  pub once : AllPairs (λ c d. slot_of c.statement ≢ slot_of d.statement) p.signed
  pub heard_own : All (λ c. view_of c.statement ≡ p.pool.view.number → IsTrue (is_some (heard_on p.pool p.me (slot_of c.statement)))) p.signed

-- each event keeps it, where the signatures that it makes are valid
abbrev pub SignedIsKept : Type 0
SignedIsKept = (s : Setting) (p : Process) (t : Turn) → All (λ c. IsTrue (is_valid s c)) (after s p t).signed → SignedFits s p
    → SignedFits s (after s p t)

-- the place that an Order or a Place gives is one of a view's, and a Place gives 1 to 16 messages
abbrev pub InRange : Statement → Type 0
InRange (Order x k b) = k ≤ last_number
InRange (Place x k b) = (k ≤ last_number) × (1 ≤ length b) × (length b ≤ most_messages)
InRange _ = Unit {0}

-- 4. What was delivered in each view is by place, at most 1,024 of them; an outsider has delivered nothing in the current view, and what
-- a member has is the batch that each place gives, with the payloads of its messages. All of this of statements in range.
pub record PlacedFits (p : Process) : Type 0 where
  pub by_place : All IsByPlace (deliveries_of p)
  pub few_places : All (λ ds. places_in ds ≤ most_places) (deliveries_of p)
  pub outside : IsFalse (is_member p.pool.view p.me) → p.delivered ≡ []
  pub placed : (k : ℕ) → k < places_in p.delivered → place_at p.pool k ≡ Some (batch_at k p.delivered)
  pub paid : All (λ d. payload_at p.pool d.message ≡ Some d.payload) p.delivered
  pub in_range : All (λ c. InRange c.statement) p.pool.heard

-- each event keeps it, where what is handed over is in range, as what is read of a frame is
abbrev pub PlacedIsKept : Type 0
PlacedIsKept = (s : Setting) (p : Process) (t : Turn) → All (λ c. InRange c.statement) (claims_in t.event) → PlacedFits p
    → PlacedFits (after s p t)

-- 5. What is decided is certified and possible, the process is a member, and the cut is not reached; it has halted exactly beyond the cut.
pub record DecisionFits (s : Setting) (p : Process) : Type 0 where
  pub decided : (d : ℕ × Value) → p.decision ≡ Some d → IsTrue (is_certified p.pool (Ready p.pool.view.number d.0 d.1))
      × IsTrue (is_possible (keyed s) p.pool.view d.1.update) × IsTrue (is_member p.pool.view p.me) × (places_in p.delivered ≢ d.1.cut)
  pub halted : (p.halted ≡ true) ↔ ((d : ℕ × Value) × (p.decision ≡ Some d) × (d.1.cut < places_in p.delivered))

-- each event keeps it, of any process
abbrev pub DecisionIsKept : Type 0
DecisionIsKept = (s : Setting) (p : Process) (t : Turn) → DecisionFits s p → DecisionFits s (after s p t)

-- 1. Each view that was left was left by a certificate of a possible update, and the last one by that which the previous pool gives; the
-- current view is the one after them.
pub record LeftFits (s : Setting) (p : Process) : Type 0 where
  pub left : AreLeft s s.genesis (map (λ l. left_by l.commit) p.left)
  pub last : CommitsLast p.previous (map (λ l. left_by l.commit) p.left)
  pub none_before : p.left ≡ [] → option_map_or (λ h. h.heard) p.previous [] ≡ []
  pub current : view_behind s.genesis (map (λ l. left_by l.commit) p.left) ≡ p.pool.view
  pub view : IsView p.pool.view

-- each event keeps it with what is heard and decided, where the signatures that it makes are valid
abbrev pub LeftIsKept : Type 0
LeftIsKept = (s : Setting) (p : Process) (t : Turn) → All (λ c. IsTrue (is_valid s c)) (after s p t).signed → HeardFits s p
    → DecisionFits s p → LeftFits s p → LeftFits s (after s p t)

-- 6. no accepted payload is too long, and at most 256 of them are not delivered yet
pub record AcceptedFits (p : Process) : Type 0 where
  pub short : All (λ payload. length payload ≤ most_payload_bytes) p.accepted
  pub backlog : length p.accepted - (earlier p + delivered_from p.me p.delivered) ≤ 256

-- each event keeps it, of any process
abbrev pub AcceptedIsKept : Type 0
AcceptedIsKept = (s : Setting) (p : Process) (t : Turn) → AcceptedFits p → AcceptedFits (after s p t)

-- 7. what is perceived is of no later view, and an update of the current view is possible in it
abbrev pub PerceivedFits : Setting → Process → Type 0
PerceivedFits s p = All (λ e. (e.0 ≤ p.pool.view.number) × (e.0 ≡ p.pool.view.number → IsTrue (is_possible (keyed s) p.pool.view e.1))) p.perceived

-- each event keeps it, of any process
abbrev pub PerceivedIsKept : Type 0
PerceivedIsKept = (s : Setting) (p : Process) (t : Turn) → PerceivedFits s p → PerceivedFits s (after s p t)
