-- Reading an image, in either version, with the place of the first fault.
--
-- A number above its limit is a fault of its field, a field that the bytes don't hold one of that field. A statement that is none, or out
-- of its ranges, has its fault at its first byte, after the length. Where pairs don't rise, the fault is where their list begins.
-- Names here (* for this crate alone):
--   claims: process_at, statement_at, claim_at, claims_at
--   values: update_at, value_at, ranked_at
--   the views that were left: left_at, all_left_at
--   lists that rise: rises, perceived_key, perceived_at, all_perceived_at, conflict_at, all_conflicts_at
--   delivered messages: place_at, message_at, delivered_at, view_at
--   the image: decision_at, halted_at, reported_at, claimed_at, settled_at, image_at, whole_at, placed, image_in
use Rattle.std.specs.Prelude.{ℕ, ◌+◌, ◌-◌, Bool, true, ◌&&◌, nat_lt, ◌==◌, List, [], ◌∷◌, length, Option, Some, None, Result, Ok, Err, if◌then◌else◌}
use Rattle.std.specs.Int.{w8, w16}
use Rattle.byte_defs.specs.Fields.{◌>>=◌, refuse_if}
use Rattle.byte_defs.specs.Orders.{numbers_below}
use Rattle.message_defs.specs.Limits.{last_process, last_number, last_rank, most_places, most_payload_bytes, most_signature_bytes}
use Rattle.message_defs.specs.Updates.{Update, Value, update_numbers}
use Rattle.message_defs.specs.Statements.{Message, Statement, Claim}
use Rattle.message_defs.specs.Reading.{statement_of, update_within}
use Rattle.message_defs.specs.Reading as messages
use Rattle.group_defs.specs.Process.{Delivered}
use Rattle.image_defs.specs.Images.{LeftView, Image}
pub use Rattle.image_defs.specs.Images.{conflict_key}
use Rattle.snapshot_defs.specs.declared.Version.{Version}
use Rattle.snapshot_defs.specs.declared.Version.TheVariants.{One, Two}
use Rattle.snapshot_defs.specs.Steps.{Step, ◌&◌, made, tested, else_fault, times_at, counted_at, wide_at, number_to, field_at, text_to, list_at}

-- ---- claims

-- the number of a process
abbrev pub process_at : List ℕ → Step ℕ
process_at bytes = number_to w8 last_process bytes

-- a statement after its length of two bytes
unfoldable pub statement_at : List ℕ → Step Statement
statement_at bytes = do
  len ← wide_at w16 bytes
  spelled ← field_at len.0 len.1
  st ← else_fault (length len.1) (statement_of spelled.0)
  Ok (st, spelled.1)

-- signer1, length2, statement, length2, signature
unfoldable pub claim_at : List ℕ → Step Claim
claim_at bytes = made (λ c. record { signer = c.0; statement = c.1.0; signature = c.1.1 })
    (process_at & statement_at & text_to most_signature_bytes) bytes

-- a list of claims
abbrev pub claims_at : List ℕ → Step (List Claim)
claims_at bytes = list_at (λ k. claim_at) bytes

-- ---- values

-- two bytes, which are one field
unfoldable pub update_at : List ℕ → Step Update
update_at bytes = else_fault (length bytes) (messages.update_at bytes >>= λ u. update_within u.0 >>= λ _. Ok u)

-- an update and a cut
unfoldable pub value_at : List ℕ → Step Value
value_at bytes = made (λ v. record { update = v.0; cut = v.1 }) (update_at & number_to w16 most_places) bytes

-- a rank and a value
abbrev pub ranked_at : List ℕ → Step (ℕ × Value)
ranked_at bytes = (number_to w8 last_rank & value_at) bytes

-- ---- the views that were left

unfoldable pub left_at : List ℕ → Step LeftView
left_at bytes = made (λ l. record { rank = l.0; value = l.1.0; commit = l.1.1 }) (number_to w8 last_rank & value_at & claims_at) bytes

abbrev pub all_left_at : List ℕ → Step (List LeftView)
all_left_at bytes = counted_at (number_to w16 last_number) (λ k. left_at) bytes

-- ---- lists that rise

-- the key of each is below that of the next, number by number
abbrev pub rises : {A : Type 0} → (A → List ℕ) → List A → Bool
rises key [] = true
rises key (x ∷ []) = true
rises key (x ∷ y ∷ ys) = numbers_below (key x) (key y) && rises key (y ∷ ys)

-- by view, then by update
abbrev pub perceived_key : ℕ × Update → List ℕ
perceived_key e = e.0 ∷ update_numbers e.1

-- a view's number and an update
unfoldable pub perceived_at : List ℕ → Step (ℕ × Update)
perceived_at bytes = (number_to w16 last_number & update_at) bytes

abbrev pub all_perceived_at : List ℕ → Step (List (ℕ × Update))
all_perceived_at bytes = tested (rises perceived_key) (list_at (λ k. perceived_at)) bytes

unfoldable pub conflict_at : List ℕ → Step (Claim × Claim)
conflict_at bytes = (claim_at & claim_at) bytes

-- their number is one byte, and at most that of the processes
abbrev pub all_conflicts_at : List ℕ → Step (List (Claim × Claim))
all_conflicts_at bytes = tested (rises conflict_key) (counted_at (number_to w8 (last_process + 1)) (λ k. conflict_at)) bytes

-- ---- delivered messages

-- the place of the message at this position of its list: in version 1 the position itself, as a field of no bytes
unfoldable pub place_at : Version → ℕ → List ℕ → Step ℕ
place_at One k bytes = refuse_if (nat_lt last_number k) (length bytes) >>= λ _. Ok (k, bytes)
place_at Two k bytes = number_to w16 last_number bytes

-- the sender, and the number of its message
unfoldable pub message_at : List ℕ → Step Message
message_at bytes = made (λ m. record { sender = m.0; number = m.1 }) (process_at & number_to w16 last_number) bytes

-- the place, the message and its payload
unfoldable pub delivered_at : Version → ℕ → List ℕ → Step Delivered
delivered_at v k bytes = made (λ d. record { place = d.0; message = d.1.0; payload = d.1.1 })
    (place_at v k & message_at & text_to most_payload_bytes) bytes

-- what was delivered in one view
unfoldable pub view_at : Version → List ℕ → Step (List Delivered)
view_at v bytes = list_at (delivered_at v) bytes

-- ---- the image

-- 00, or 01 and a rank and a value
unfoldable pub decision_at : List ℕ → Step (Option (ℕ × Value))
decision_at bytes = do
  tag ← number_to w8 1 bytes
  if tag.0 == 0 then Ok (None, tag.1) else made Some ranked_at tag.1

-- 00 or 01
unfoldable pub halted_at : List ℕ → Step Bool
halted_at bytes = made (λ n. n == 1) (number_to w8 1) bytes

-- the own number, the views that were left, the perceived pairs and the accepted payloads
unfoldable pub reported_at : List ℕ → Step (ℕ × (List LeftView × (List (ℕ × Update) × List (List ℕ))))
reported_at bytes = (process_at & all_left_at & all_perceived_at & list_at (λ k. text_to most_payload_bytes)) bytes

-- the signed claims, those that were heard before, those that are heard, and the conflicts
unfoldable pub claimed_at : List ℕ → Step (List Claim × (List Claim × (List Claim × List (Claim × Claim))))
claimed_at bytes = (claims_at & claims_at & claims_at & all_conflicts_at) bytes

-- what was delivered in `views` views, the decision, and whether the process has halted
unfoldable pub settled_at : Version → ℕ → List ℕ → Step (List (List Delivered) × (Option (ℕ × Value) × Bool))
settled_at v views bytes = (times_at (λ k. view_at v) 0 views & decision_at & halted_at) bytes

-- The views are those that were left and the one after them.
unfoldable pub image_at : Version → List ℕ → Step Image
image_at v bytes = do
  reported ← reported_at bytes
  claimed ← claimed_at reported.1
  settled ← settled_at v (length reported.0.1.0 + 1) claimed.1
  Ok (
    record {
      me = reported.0.0;
      left = reported.0.1.0;
      perceived = reported.0.1.1.0;
      accepted = reported.0.1.1.1;
      signed = claimed.0.0;
      previous = claimed.0.1.0;
      heard = claimed.0.1.1.0;
      conflicts = claimed.0.1.1.1;
      delivered = settled.0.0;
      decision = settled.0.1.0;
      halted = settled.0.1.1;
    },
    settled.1,
  )

-- the image that all of the bytes spell; bytes after it are a fault where they begin
unfoldable pub whole_at : Version → List ℕ → Result Image ℕ
whole_at v bytes = do
  image ← image_at v bytes
  _ ← refuse_if (nat_lt 0 (length image.1)) (length image.1)
  Ok image.0

-- the place of a fault, in `size` bytes
abbrev pub placed : {A : Type 0} → ℕ → Result A ℕ → Result A ℕ
placed size (Ok image) = Ok image
placed size (Err left) = Err (size - left)

-- the image that the bytes spell, or the place of the first fault: how many bytes come before it
unfoldable pub image_in : Version → List ℕ → Result Image ℕ
image_in v bytes = placed (length bytes) (whole_at v bytes)
