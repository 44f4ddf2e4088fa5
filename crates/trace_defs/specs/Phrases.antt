-- Words that several lines have: payloads, messages, updates, values, processes and statements.
-- Names here (* for this crate alone):
--   Word, Line
--   numbers: number_and_colon
--   payloads: is_plain*, quoted, most_shown*, payload_words
--   messages, updates, processes: message_word, update_words, process_words
--   statements: place_words*, rank_words*, last_words*, statement_words*, spelled_words
use Rattle.std.specs.Prelude.{ℕ, Bool, ◌&&◌, not, nat_lt, nat_le, ◌==◌, if◌then◌else◌, List, [], ◌∷◌, ◌++◌, length, map, take, Option, Some, None, codes, Ok, Err}
use Rattle.std.specs.List.{list_all}
use Rattle.std.specs.Fmt.{decimal}
use Rattle.hex.specs.Hex.{encode_lower}
use Rattle.message_defs.specs.Updates.{Update, Remove, Add, Renew, Value}
use Rattle.message_defs.specs.Statements.{Message, Batch, Statement, Init, Echo, Order, Place, Keep, Notify, End, Last, Suggest, Ack, Ready}
use Rattle.message_defs.specs.Reading.{statement_of}

-- a word is its letters
abbrev pub Word : Type 0
Word = List ℕ

-- a line is its words, with one space between them
abbrev pub Line : Type 0
Line = List Word

-- ---- numbers

-- a number and a colon
abbrev pub number_and_colon : ℕ → Word
number_and_colon n = decimal n ++ codes ":"

-- ---- payloads

-- a letter, digit or sign that is written as itself: from the space to the tilde, but for quotation mark, &, <, > and the backslash
abbrev pub is_plain : ℕ → Bool
is_plain c = nat_le 32 c && nat_le c 126 && not (c == 34) && not (c == 38) && not (c == 60) && not (c == 62) && not (c == 92)

-- bytes in quotation marks, where each is written as itself, else in hexadecimal
abbrev pub quoted : List ℕ → Word
quoted bytes = if list_all is_plain bytes then 34 ∷ bytes ++ 34 ∷ [] else encode_lower bytes

-- the most bytes of a payload that are shown
unfoldable pub most_shown : ℕ
most_shown = 24

-- a payload, or its first bytes and how many it has
abbrev pub payload_words : List ℕ → Line
payload_words bytes =
    if nat_lt most_shown (length bytes) then quoted (take most_shown bytes) ∷ codes ".." ∷ decimal (length bytes) ∷ codes "bytes" ∷ []
    else quoted bytes ∷ []

-- ---- messages, updates, processes

-- message l of process s is s/l
abbrev pub message_word : Message → Word
message_word m = decimal m.sender ++ codes "/" ++ decimal m.number

-- what becomes of the members
abbrev pub update_words : Update → Line
update_words (Remove p) = codes "remove" ∷ decimal p ∷ []
update_words (Add p) = codes "add" ∷ decimal p ∷ []
update_words Renew = codes "renew" ∷ []

-- the processes of a set: none, or all of the 64 that there may be, or their numbers
abbrev pub process_words : List ℕ → Line
process_words ps = if length ps == 0 then codes "nobody" ∷ [] else (if length ps == 64 then codes "all" ∷ [] else map decimal ps)

-- ---- statements

-- a statement of this kind at a place of a view, of a batch
abbrev pub place_words : Word → ℕ → ℕ → Batch → Line
place_words kind x k batch = kind ∷ codes "of place" ∷ decimal k ∷ codes "in view" ∷ number_and_colon x ∷ map message_word batch

-- at a rank of a view, of a value
abbrev pub rank_words : Word → ℕ → ℕ → Value → Line
rank_words kind x r v =
    kind ∷ codes "at rank" ∷ decimal r ∷ codes "in view" ∷ number_and_colon x ∷ codes "cut" ∷ decimal v.cut ∷ codes "and"
    ∷ update_words v.update

-- a report of no Ready, or of one at an earlier rank
abbrev pub last_words : ℕ → ℕ → Option (ℕ × Value) → Line
last_words x r None = codes "Last at rank" ∷ decimal r ∷ codes "in view" ∷ number_and_colon x ∷ codes "no Ready" ∷ []
last_words x r (Some ready) =
    codes "Last at rank" ∷ decimal r ∷ codes "in view" ∷ number_and_colon x
    ∷ codes "Ready at rank" ∷ decimal ready.0 ∷ codes "cut" ∷ decimal ready.1.cut ∷ codes "and" ∷ update_words ready.1.update

-- what is said, and of which view
abbrev pub statement_words : Statement → Line
statement_words (Init x l payload) = codes "Init" ∷ decimal l ∷ codes "in view" ∷ number_and_colon x ∷ payload_words payload
statement_words (Echo x m payload) = codes "Echo of" ∷ message_word m ∷ codes "in view" ∷ number_and_colon x ∷ payload_words payload
statement_words (Order x k b) = place_words (codes "Order") x k b
statement_words (Place x k b) = place_words (codes "Place") x k b
statement_words (Keep x k b) = place_words (codes "Keep") x k b
statement_words (Notify x u) = codes "Notify in view" ∷ number_and_colon x ∷ update_words u
statement_words (End x k) = codes "End of view" ∷ decimal x ∷ codes "behind" ∷ decimal k ∷ codes "places" ∷ []
statement_words (Last x r ready) = last_words x r ready
statement_words (Suggest x r v) = rank_words (codes "Suggest") x r v
statement_words (Ack x r v) = rank_words (codes "Ack") x r v
statement_words (Ready x r v) = rank_words (codes "Ready") x r v

-- the statement that the bytes spell, where they spell one
abbrev pub spelled_words : List ℕ → Line
spelled_words bytes = elim (statement_of bytes) [ Ok st ↦ statement_words st | Err fault ↦ codes "no statement" ∷ [] ]
