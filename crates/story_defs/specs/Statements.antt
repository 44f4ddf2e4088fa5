-- Statements in words, as a Lie has them: `in VIEW` where the view is not 0, the kind, and what it says.
use Rattle.std.specs.Prelude.{ℕ, zero, suc, Bool, ◌==◌, nat_le, if◌then◌else◌, List, [], ◌∷◌, ◌++◌, length, Option, Some, None, codes, Result, Ok, Err}
use Rattle.byte_defs.specs.Equality.{same_bytes}
use Rattle.byte_defs.specs.Fields.{◌>>=◌, refuse_if}
use Rattle.message_defs.specs.Updates.{Update, Remove, Add, Renew, Value}
use Rattle.message_defs.specs.Statements.{Message, Batch, Statement, Init, Echo, Order, Place, Keep, Notify, End, Last, Suggest, Ack, Ready}
use Rattle.message_defs.specs.Spelling.{spelling}
use Rattle.story_defs.specs.declared.Expected.{Expected}
use Rattle.story_defs.specs.Words.{Words, Step, next_at, number_at, process_at, payload_at, word_at, ended}

module _ (x : Expected) where
  -- `remove P`, `add P` or `renew`
  unfoldable pub update_at : Words → Step Update
  update_at words = next_at x words >>= λ word.
      if same_bytes word.0 (codes "remove") then (process_at x word.1 >>= λ p. Ok (Remove p.0, p.1)) else
      (if same_bytes word.0 (codes "add") then (process_at x word.1 >>= λ p. Ok (Add p.0, p.1)) else
      (if same_bytes word.0 (codes "renew") then Ok (Renew, word.1) else Err x))

  -- an update and a cut
  unfoldable pub value_at : Words → Step Value
  value_at words = do
    update ← update_at words
    cut ← number_at x 0 1024 update.1
    Ok (record { update = update.0; cut = cut.0 }, cut.1)

  -- a sender, and the number of its message
  unfoldable pub message_at : Words → Step Message
  message_at words = do
    sender ← process_at x words
    number ← number_at x 0 1023 sender.1
    Ok (record { sender = sender.0; number = number.0 }, number.1)

  -- these messages, and those of all the words that are left: `more` of them at most
  unfoldable pub messages_behind : ℕ → Batch → Words → Result Batch Expected
  messages_behind more before [] = Ok before
  messages_behind zero before (word ∷ words) = Err x
  messages_behind (suc more) before (word ∷ words) = message_at (word ∷ words) >>= λ m. messages_behind more (before ++ m.0 ∷ []) m.1

  -- 1 to 16 messages, to the end
  unfoldable pub batch_at : Words → Result Batch Expected
  batch_at words = message_at words >>= λ first. messages_behind 15 (first.0 ∷ []) first.1

  -- the rank of a Ready that is below this one, and its value
  unfoldable pub ready_at : ℕ → Words → Step (ℕ × Value)
  ready_at below words = do
    rank ← number_at x 0 15 words
    lower ← refuse_if (nat_le below rank.0) x
    value ← value_at rank.1
    Ok ((rank.0, value.0), value.1)

  -- what a Last of this rank reports: `none`, or the rank and the value of a Ready
  unfoldable pub report_at : ℕ → Words → Step (Option (ℕ × Value))
  report_at rank words = next_at x words >>= λ word.
      if same_bytes word.0 (codes "none") then Ok (None, word.1) else (ready_at rank words >>= λ ready. Ok (Some ready.0, ready.1))

  -- `in` and the number of a view, or neither for view 0
  unfoldable pub view_at : Words → Step ℕ
  view_at words = next_at x words >>= λ word.
      if same_bytes word.0 (codes "in") then number_at x 0 1023 word.1 else Ok (0, words)

  -- ---- what the words after the kind say, of this view

  unfoldable pub init_at : ℕ → Words → Result Statement Expected
  init_at view words = do
    number ← number_at x 0 1023 words
    payload ← payload_at x 1024 number.1
    end ← ended x payload.1
    Ok (Init view number.0 payload.0)

  unfoldable pub echo_at : ℕ → Words → Result Statement Expected
  echo_at view words = do
    message ← message_at words
    payload ← payload_at x 1024 message.1
    end ← ended x payload.1
    Ok (Echo view message.0 payload.0)

  -- the place and the batch of an Order, a Place or a Keep
  unfoldable pub placed_at : (ℕ → ℕ → Batch → Statement) → ℕ → Words → Result Statement Expected
  placed_at kind view words = do
    place ← number_at x 0 1023 words
    batch ← batch_at place.1
    Ok (kind view place.0 batch)

  unfoldable pub notify_at : ℕ → Words → Result Statement Expected
  notify_at view words = do
    update ← update_at words
    end ← ended x update.1
    Ok (Notify view update.0)

  unfoldable pub end_at : ℕ → Words → Result Statement Expected
  end_at view words = do
    count ← number_at x 0 1024 words
    end ← ended x count.1
    Ok (End view count.0)

  unfoldable pub last_at : ℕ → Words → Result Statement Expected
  last_at view words = do
    rank ← number_at x 0 15 words
    ready ← report_at rank.0 rank.1
    end ← ended x ready.1
    Ok (Last view rank.0 ready.0)

  -- the rank and the value of a Suggest, an Ack or a Ready
  unfoldable pub valued_at : (ℕ → ℕ → Value → Statement) → ℕ → Words → Result Statement Expected
  valued_at kind view words = do
    rank ← number_at x 0 15 words
    value ← value_at rank.1
    end ← ended x value.1
    Ok (kind view rank.0 value.0)

  -- by the word of the kind
  unfoldable pub content_at : ℕ → List ℕ → Words → Result Statement Expected
  content_at view word words =
      if same_bytes word (codes "init") then init_at view words else
      (if same_bytes word (codes "echo") then echo_at view words else
      (if same_bytes word (codes "order") then placed_at Order view words else
      (if same_bytes word (codes "place") then placed_at Place view words else
      (if same_bytes word (codes "keep") then placed_at Keep view words else
      (if same_bytes word (codes "notify") then notify_at view words else
      (if same_bytes word (codes "end") then end_at view words else
      (if same_bytes word (codes "last") then last_at view words else
      (if same_bytes word (codes "suggest") then valued_at Suggest view words else
      (if same_bytes word (codes "ack") then valued_at Ack view words else
      (if same_bytes word (codes "ready") then valued_at Ready view words else Err x))))))))))

  -- a statement in words
  unfoldable pub worded_at : Words → Result Statement Expected
  worded_at words = do
    view ← view_at words
    kind ← next_at x view.1
    content_at view.0 kind.0 kind.1

  -- the bytes of a statement that is spelled in words
  abbrev pub spelled_at : Words → Result (List ℕ) Expected
  spelled_at words = worded_at words >>= λ st. Ok (spelling st)

  -- the bytes of a statement: in one word as they are, or spelled in several
  unfoldable pub statement_at : Words → Result (List ℕ) Expected
  statement_at [] = Err x
  statement_at (word ∷ []) = payload_at x 65535 (word ∷ []) >>= λ bytes. Ok bytes.0
  statement_at (word ∷ next ∷ words) = spelled_at (word ∷ next ∷ words)
