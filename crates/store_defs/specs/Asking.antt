-- What `ask` reads and writes. Its input is a kit and the line `go`, and after it, in this order:
--   replykey P HEX     the reply key of a process of the roster, by rising numbers; as many digits as a key line of the kit has
--   view X : M M M     one line
--   reply P HEX        a reply record of P, at most 1,024 lines
-- A line of another form, a view that is none, a reply that is none or another signer's, a 1,025th reply and the end of the input before
-- the view line are faults of their lines; a last line that no line feed ends is one of another form.
-- Names here (* for this crate alone):
--   reply keys: reply_key_by, named_key
--   the view: view_of_words, view_by
--   replies: record_by, reply_by
--   the lines after the kit: Question, most_replies, line_words, replies_from, is_view, question_from
--   the answer: key_in, answered, answer_text, asked, ask_output
use Rattle.std.specs.Prelude.{ℕ, ◌+◌, ◌-◌, ◌==◌, ◌&&◌, not, nat_lt, nat_le, if◌then◌else◌, Bool, true, false, List, [], ◌∷◌, ◌++◌, length, map, codes, find, Option, Some, None, option_map, Result, Ok, Err}
use Rattle.std.specs.Option.{ok_or, option_flatten}
use Rattle.std.specs.Result.{result_ok}
use Rattle.std.specs.Fmt.{decimal}
use Rattle.hex.specs.Hex.{encode_lower}
use Rattle.byte_defs.specs.Choices.{first_that_holds, and_then}
use Rattle.byte_defs.specs.Equality.{same_bytes}
use Rattle.byte_defs.specs.Fields.{◌>>=◌, refuse_if}
use Rattle.byte_defs.specs.Members.{has}
use Rattle.signature_defs.specs.Schemes.{Scheme, is_valid}
use Rattle.message_defs.specs.Limits.{last_number, most_members}
use Rattle.group_defs.specs.Views.{View}
use Rattle.text_defs.specs.Words.{words_of, line_text, parts_of, number_within, process_of, bytes_of}
use Rattle.kit_defs.specs.Kits.{Kit, roster_of, key_length}
use Rattle.kit_defs.specs.KitReading.{KitFault, Line, members_by, most_line_bytes}
use Rattle.input_defs.specs.Fronts.{front_of, fault_words}
use Rattle.store_defs.specs.Records.{Reply, reply_of}
use Rattle.store_defs.specs.Votes.{Content, new_vote, vote_after, accepted}
use Rattle.store_defs.specs.Words.{some_bytes_of, listed_process}
use Rattle.store_defs.specs.Services.{behind_first}

-- ---- reply keys

-- what the words of a reply key's line say: a process above those before it, and its key
abbrev pub reply_key_by : Scheme → List ℕ → List (ℕ × List ℕ) → List (List ℕ) → Option (ℕ × List ℕ)
reply_key_by scheme roster before (process ∷ key ∷ []) =
    and_then (listed_process roster process) (λ p.
    if rises before p then option_map (λ k. (p, k)) (bytes_of (key_length scheme) key) else None)
  where
    rises : List (ℕ × List ℕ) → ℕ → Bool
    rises [] p = true
    rises (k ∷ []) p = nat_lt k.0 p
    rises (k ∷ l ∷ more) p = rises (l ∷ more) p
reply_key_by scheme roster before _ = None

-- what a line says that begins with their word
abbrev pub named_key : Scheme → List ℕ → List (ℕ × List ℕ) → List (List ℕ) → Option (ℕ × List ℕ)
named_key scheme roster before [] = None
named_key scheme roster before (word ∷ words) =
    if same_bytes word (codes "replykey") then reply_key_by scheme roster before words else None

-- ---- the view

-- a view of a number up to 1,023 and 1 to 16 different processes
abbrev pub view_of_words : List ℕ → List (List ℕ) → Option View
view_of_words number words =
    and_then (number_within 0 last_number number) (λ x.
    if nat_le 1 (length words) && nat_le (length words) most_members
    then option_map (λ ms. record { number = x; members = ms }) (members_by [] words) else None)

-- what the words after `view` say
abbrev pub view_by : List (List ℕ) → Option View
view_by (number ∷ colon ∷ words) = if same_bytes colon (codes ":") then view_of_words number words else None
view_by _ = None

-- ---- replies

-- a reply record of this process
abbrev pub record_by : ℕ → List ℕ → Option Reply
record_by p word =
    and_then (some_bytes_of word) (λ bytes. and_then (result_ok (reply_of bytes)) (λ r. if r.signer == p then Some r else None))

-- what the words of a reply's line say
abbrev pub reply_by : List (List ℕ) → Option Reply
reply_by (word ∷ process ∷ bytes ∷ []) =
    if same_bytes word (codes "reply") then and_then (process_of process) (λ p. record_by p bytes) else None
reply_by _ = None

-- ---- the lines after the kit

-- what comes after a kit
pub record Question : Type 0 where
  pub keys : List (ℕ × List ℕ)
  pub view : View
  pub replies : List Reply

-- the most replies
unfoldable pub most_replies : ℕ
most_replies = 1024

-- the words of a line, where it is no longer than a line may be
abbrev pub line_words : ℕ → List ℕ → Result (List (List ℕ)) KitFault
line_words n line = if nat_lt most_line_bytes (length line) then Err (Line n) else Ok (words_of line)

-- from line n on: at most `left` replies, to the end of the input
unfoldable pub replies_from : ℕ → ℕ → List (List ℕ) → Result (List Reply) KitFault
replies_from n left [] = Err (Line n)
replies_from n left (rest ∷ []) = if length rest == 0 then Ok [] else Err (Line n)
replies_from n left (line ∷ next ∷ more) = do
  words ← line_words n line
  _ ← refuse_if (left == 0) (Line n)
  reply ← ok_or (reply_by words) (Line n)
  others ← replies_from (n + 1) (left - 1) (next ∷ more)
  Ok (reply ∷ others)

-- the view's line begins with its word
abbrev pub is_view : List (List ℕ) → Bool
is_view (word ∷ words) = same_bytes word (codes "view")
is_view _ = false

-- from the line of this number on: reply keys, the view, replies
unfoldable pub question_from : Scheme → List ℕ → ℕ → List (ℕ × List ℕ) → List (List ℕ) → Result Question KitFault
question_from scheme roster n keys [] = Err (Line n)
question_from scheme roster n keys (rest ∷ []) = Err (Line n)
question_from scheme roster n keys (line ∷ next ∷ more) = line_words n line >>= (λ words.
    if is_view words then (ok_or (view_by (behind_first words)) (Line n) >>= (λ view.
    replies_from (n + 1) most_replies (next ∷ more) >>= (λ replies. Ok (record { keys = keys; view = view; replies = replies }))))
    else (ok_or (named_key scheme roster keys words) (Line n)
    >>= (λ key. question_from scheme roster (n + 1) (keys ++ key ∷ []) (next ∷ more))))

-- ---- the answer

-- the reply key of a process, where it was given
abbrev pub key_in : List (ℕ × List ℕ) → ℕ → Option (List ℕ)
key_in keys p = option_map (λ k. k.1) (find (λ k. k.0 == p) keys)

-- what f + 1 members answered to the payload
abbrev pub answered : Kit → List ℕ → Question → Option Content
answered kit payload q = accepted (vote_after (is_valid kit.scheme) kit.group (key_in q.keys) (new_vote q.view payload) q.replies)

-- the line of an answer in a view
abbrev pub answer_text : ℕ → Option Content → List ℕ
answer_text x None = line_text (codes "answer" ∷ codes "none" ∷ [])
answer_text x (Some c) = line_text (codes "answer" ∷ decimal x ∷ decimal c.place ∷ decimal c.position ∷ encode_lower c.answer ∷ [])

-- the question that an input asks after its kit
unfoldable pub asked : List ℕ → Result (Kit × Question) KitFault
asked input = do
  front ← front_of input
  question ← question_from front.kit.scheme (roster_of front.kit.keys) front.line [] (parts_of front.rest)
  Ok (front.kit, question)

-- what is written, and the status
unfoldable pub ask_output : List ℕ → List ℕ → List ℕ × ℕ
ask_output payload input = elim (asked input) [
  | Ok q ↦ (answer_text q.1.view.number (answered q.0 payload q.1), 0)
  | Err fault ↦ (line_text (codes "stop" ∷ decimal 7 ∷ fault_words fault), 7)
]
