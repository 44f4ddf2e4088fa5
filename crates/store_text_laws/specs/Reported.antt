-- What follows the lines that a node which serves writes, and those of `ask`: each is read as what it was made of. A line is given without
-- its line feed.
use Rattle.std.specs.Prelude.{◌≡◌, ℕ, ◌^◌, ◌<◌, ◌≤◌, List, length, Some, None}
use Rattle.std.specs.List.{flat_map}
use Rattle.hex.specs.Hex.{IsBytes}
use Rattle.group_defs.specs.Process.{Delivered}
use Rattle.group_defs.specs.Events.{Delivers}
use Rattle.node_defs.specs.Lines.{note_line}
use Rattle.store_defs.specs.Stores.{Store, IsStore, store_bytes}
use Rattle.store_defs.specs.Records.{Reply, StateRecord, IsReply, IsStateRecord, reply_bytes, state_bytes}
use Rattle.store_defs.specs.Votes.{Content}
use Rattle.store_defs.specs.Asking.{answer_text}
use Rattle.store_defs.specs.Serving.{Given, Signed, ReportedReply}
use Rattle.store_defs.specs.Words.{given_text, reported_text}
use Rattle.store_text_defs.specs.Answers.{said_tokens}
use Rattle.store_text_defs.specs.Filters.{ended}
use Rattle.store_text_defs.specs.Meanings.{meaning, payload_tokens, reply_tokens, store_lines, reported_line}

-- numbers that a word of a line has
pub record AreSmall (p x : ℕ) (d : Delivered) : Type 0 where
  pub me : p < 2 ^ 64
  pub view : x < 2 ^ 64
  pub place : d.place < 2 ^ 64
  pub sender : d.message.sender < 2 ^ 64
  pub number : d.message.number < 2 ^ 64

-- after a delivery comes what its payload asks
abbrev pub DeliveryIsReported : Type 0
DeliveryIsReported = (me x : ℕ) (d : Delivered) (line : List ℕ) → AreSmall me x d → IsBytes d.payload → ended line ≡ note_line me (Delivers x d)
    → meaning line ≡ reported_line (payload_tokens d.payload)

-- after a reply comes where it is from, what was asked and what was answered
abbrev pub ReplyIsReported : Type 0
ReplyIsReported = (r : Reply) (line : List ℕ) → IsReply r → IsBytes (reply_bytes r) → ended line ≡ reported_text r.signer (ReportedReply (Signed r))
    → meaning line ≡ reported_line (reply_tokens r)

-- after a state come its view, and each key with its value
abbrev pub StateIsReported : Type 0
StateIsReported = (r : StateRecord) (s : Store) (line : List ℕ) → IsStateRecord r → IsStore s → r.state ≡ store_bytes s → IsBytes (state_bytes r)
    → ended line ≡ given_text r.signer (Given r)
    → meaning line ≡ flat_map reported_line (store_lines r.view s)

-- numbers of an answer that a word of a line has, and an answer that is there
pub record IsSmall (x : ℕ) (c : Content) : Type 0 where
  pub view : x < 2 ^ 64
  pub place : c.place < 2 ^ 64
  pub position : c.position < 2 ^ 64
  pub some : 1 ≤ length c.answer
  pub bytes : IsBytes c.answer

-- after an answer comes what it says
abbrev pub AcceptedIsReported : Type 0
AcceptedIsReported = (x : ℕ) (c : Content) (line : List ℕ) → IsSmall x c → ended line ≡ answer_text x (Some c)
    → meaning line ≡ reported_line (said_tokens c.answer)
