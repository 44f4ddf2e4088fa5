-- What is left of a delivered list after the places that a pool certifies.
use Rattle.std.specs.Prelude.{ℕ, zero, suc, ◌+◌, Bool, ◌&&◌, ◌==◌, if◌then◌else◌, List, [], ◌∷◌, Option, Some, None, option_and_then}
use Rattle.byte_defs.specs.Choices.{is_some_and}
use Rattle.byte_defs.specs.Equality.{is_yes, bytes_discrete}
use Rattle.message_defs.specs.Statements.{Message, Batch}
use Rattle.group_defs.specs.Process.{Pool, Delivered}
use Rattle.group_defs.specs.Certified.{payload_at, place_at}

-- the message was delivered at place k
abbrev pub is_delivered : ℕ → Message → Delivered → Bool
is_delivered k m d = d.place == k && (d.message.sender == m.sender && d.message.number == m.number)

-- the first of these deliveries is the message, at place k: what is left after it
abbrev pub after_message : ℕ → Message → List Delivered → Option (List Delivered)
after_message k m [] = None
after_message k m (d ∷ ds) = if is_delivered k m d then Some ds else None

-- and so for the messages of a batch, in order
abbrev pub after_batch : ℕ → Batch → List Delivered → Option (List Delivered)
after_batch k [] ds = Some ds
after_batch k (m ∷ ms) ds = option_and_then (after_batch k ms) (after_message k m ds)

-- and so for the batch that is certified of the place
abbrev pub after_place : Pool → ℕ → List Delivered → Option (List Delivered)
after_place h k ds = option_and_then (λ b. after_batch k b ds) (place_at h k)

-- and for this many places from k on
abbrev pub after_places : Pool → ℕ → ℕ → List Delivered → Option (List Delivered)
after_places h zero k ds = Some ds
after_places h (suc more) k ds = option_and_then (after_places h more (k + 1)) (after_place h k ds)

-- the payload of the delivery is certified for its message
abbrev pub is_paid : Pool → Delivered → Bool
is_paid h d = is_some_and (payload_at h d.message) (λ payload. is_yes (bytes_discrete payload d.payload))
