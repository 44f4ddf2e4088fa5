-- The word of a reply that has an answer, and which replies have a spelling.
use Rattle.std.specs.Prelude.{ℕ, ◌≤◌, List, length, nat_le, if◌then◌else◌, Option, Some, None}
use Rattle.message_defs.specs.Limits.{last_number, most_payload_bytes}
use Rattle.message_defs.specs.Statements.{Message}
use Rattle.group_defs.specs.Process.{Delivered}
use Rattle.store_defs.specs.Keys.{Signs}
use Rattle.store_defs.specs.Records.{Reply, last_position, reply_body}
use Rattle.store_defs.specs.Serving.{ReplyWord, Signed, NoLeaf, NoStore}

-- the reply, signed with the leaf of this number, where the key has one
abbrev pub word_with : Signs → List ℕ → ℕ → Reply → ReplyWord
word_with key group leaf r =
    if nat_le key.total leaf then NoLeaf else Signed (record r { signature = key.signature leaf (reply_body group r) })

-- the same, of a reply without its answer, where the store gives one
abbrev pub word_of : Signs → List ℕ → ℕ → Reply → Option (List ℕ) → ReplyWord
word_of key group leaf r None = NoStore
word_of key group leaf r (Some answer) = word_with key group leaf (record r { answer = answer })

-- how far messages are counted; no key has more leaves
unfoldable pub most_counted : ℕ
most_counted = 4294967295

-- a message with this place and payload
abbrev pub message_at : ℕ → List ℕ → Message → Delivered
message_at place payload m = record { place = place; message = m; payload = payload }

-- a reply in view x, to a message at position i of place k with this payload, is in its ranges
pub record HasSpelling (x k i : ℕ) (bytes : List ℕ) : Type 0 where
  pub view : x ≤ last_number
  pub place : k ≤ last_number
  pub position : i ≤ last_position
  pub payload : length bytes ≤ most_payload_bytes
