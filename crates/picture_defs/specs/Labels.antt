-- A mark for each thing that happens, and what came of it, in few words.
-- Names here (* for this crate alone):
--   statements: in_statement*, in_delivery*, numbered*, short*, short_of
--   what came of it: span_begin*, span_end*, span*, note_span, wish*, is_frame*, beside*, is_quiet*, outcome_words*, refusal_text*,
--     taken_text*, outcome_text*
--   marks: is_delivery, taken_mark*, mark*, step_label*, lie_label*, label
use Rattle.std.specs.Prelude.{ℕ, ◌+◌, Bool, true, false, ◌&&◌, ◌==◌, if◌then◌else◌, List, [], ◌∷◌, ◌++◌, length, take, None, Some, Ok, Err, codes}
use Rattle.std.specs.List.{flat_map, list_any}
use Rattle.std.specs.Fmt.{decimal}
use Rattle.message_defs.specs.Statements.{Statement, Init, Echo, Order, Place, Keep, Notify, End, Last, Suggest, Ack, Ready}
use Rattle.message_defs.specs.Reading.{statement_of}
use Rattle.group_defs.specs.Events.{EventFault, Note, Delivers, Installs, Liar, Spent, Halts}
use Rattle.replay_defs.specs.Reports.{refusal_word}
use Rattle.replay_defs.specs.Schedules.{Listed}
use Rattle.trace_defs.specs.Phrases.{Word, number_and_colon, message_word, quoted}
use Rattle.trace_defs.specs.Outcomes.{Seen}
use Rattle.trace_defs.specs.Happenings.{Handed, Payload, Frame, Bytes, Suspects, Joins, Renews, Ticks, Happening, Takes, Loses, Lies, Silent}
use Rattle.picture_defs.specs.Elements.{Point, text_of, dot, text_at, spaced}
use Rattle.picture_defs.specs.Layout.{place}

-- ---- statements

-- the most bytes of a payload that are shown in a statement
unfoldable pub in_statement : ℕ
in_statement = 8

-- the most bytes of a payload that are shown in a delivery
unfoldable pub in_delivery : ℕ
in_delivery = 12

-- a kind and a number
abbrev pub numbered : Word → ℕ → List ℕ
numbered kind n = text_of (codes " " ∷ kind ∷ codes " " ∷ decimal n ∷ [])

-- a statement in few words: its kind, and what it is of
abbrev pub short : Statement → List ℕ
short (Init x l payload) = numbered (codes "Init") l ++ (codes " " ++ quoted (take in_statement payload))
short (Echo x m payload) = text_of (codes " Echo " ∷ message_word m ∷ [])
short (Order x k b) = numbered (codes "Order") k
short (Place x k b) = numbered (codes "Place") k
short (Keep x k b) = numbered (codes "Keep") k
short (Notify x u) = codes " Notify"
short (End x k) = numbered (codes "End") k
short (Last x r ready) = numbered (codes "Last") r
short (Suggest x r v) = numbered (codes "Suggest") r
short (Ack x r v) = numbered (codes "Ack") r
short (Ready x r v) = numbered (codes "Ready") r

-- the statement that the bytes spell, where they spell one
abbrev pub short_of : List ℕ → List ℕ
short_of bytes = elim (statement_of bytes) [ Ok st ↦ short st | Err fault ↦ [] ]

-- ---- what came of it

-- the beginning of words of this class
abbrev pub span_begin : Word → List ℕ
span_begin class = text_of (codes " <tspan class='" ∷ class ∷ codes "'>" ∷ [])

-- the end of words of any class
abbrev pub span_end : List ℕ
span_end = codes "</tspan>"

-- words of this class
abbrev pub span : Word → List ℕ → List ℕ
span class text = span_begin class ++ (text ++ span_end)

-- what a process reports, in few words
abbrev pub note_span : Note → List ℕ
note_span (Delivers x d) = span (codes "got") (number_and_colon d.place ++ (codes " " ++ quoted (take in_delivery d.payload)))
note_span (Installs v) = span (codes "view") (text_of (codes "view " ∷ number_and_colon v.number ∷ []) ++ spaced v.members)
note_span (Liar q) = span (codes "bad") (text_of (decimal q ∷ codes " lies" ∷ []))
note_span Spent = span (codes "bad") (codes "key spent")
note_span (Halts delivered cut) = span (codes "bad") (codes "halts")

-- what a process is asked for; nothing, where it is handed a frame
abbrev pub wish : Handed → List ℕ
wish Payload = codes " submit"
wish (Frame number from) = []
wish (Bytes from) = []
wish (Suspects q) = text_of (codes " remove " ∷ decimal q ∷ [])
wish (Joins q) = text_of (codes " add " ∷ decimal q ∷ [])
wish Renews = codes " renew"
wish Ticks = codes " tick"

-- it is handed a frame, or bytes as a frame
abbrev pub is_frame : Handed → Bool
is_frame (Frame number from) = true
is_frame (Bytes from) = true
is_frame _ = false

-- beside a mark
abbrev pub beside : Point → Point
beside a = record { x = a.x + 9; y = a.y + 4 }

-- there is nothing to say: a frame came, and nothing came of it
abbrev pub is_quiet : Handed → Seen → Bool
is_quiet handed o = is_frame handed && (length o.notes == 0) && (length o.signed == 0)

-- what a process reported and what it signed, in few words
abbrev pub outcome_words : Seen → List ℕ
outcome_words o = flat_map note_span o.notes ++ flat_map (λ c. short_of c.statement) o.signed

-- what a process was asked for, and why it refused it
abbrev pub refusal_text : Point → Handed → EventFault → List ℕ
refusal_text a handed fault = text_at (codes "said") (beside a) (wish handed ++ span (codes "bad") (refusal_word fault))

-- what a process was asked for, and what came of it, where there is anything to say
abbrev pub taken_text : Point → Handed → Seen → List ℕ
taken_text a handed o =
    if is_quiet handed o then [] else text_at (codes "said") (beside a) (wish handed ++ outcome_words o)

-- what came of what a process was handed
abbrev pub outcome_text : Point → Handed → Seen → List ℕ
outcome_text a handed o = elim o.verdict [ Some fault ↦ refusal_text a handed fault | None ↦ taken_text a handed o ]

-- ---- marks

-- a message is delivered
abbrev pub is_delivery : Note → Bool
is_delivery (Delivers x d) = true
is_delivery _ = false

-- the mark of what was taken: that of a delivery, of a frame, or of what the process was asked for
abbrev pub taken_mark : Point → Handed → Seen → List ℕ
taken_mark a handed o =
    if list_any is_delivery o.notes then dot (codes "delivered") a 5
    else (if is_frame handed then dot (codes "step") a 2 else dot (codes "asked") a 4)

-- the mark of what a process was handed: that of a refusal, or of what was taken
abbrev pub mark : Point → Handed → Seen → List ℕ
mark a handed o = elim o.verdict [ Some fault ↦ dot (codes "wrong") a 4 | None ↦ taken_mark a handed o ]

-- the mark of what a process was handed, and what came of it
unfoldable pub step_label : Point → Handed → Seen → List ℕ
step_label a handed o = mark a handed o ++ outcome_text a handed o

-- a lie has its own mark, and its statement beside it
unfoldable pub lie_label : Point → List ℕ → List ℕ
lie_label a statement = dot (codes "wrong") a 4 ++ text_at (codes "bad") (beside a) (short_of statement)

-- the mark and the text of what happens in row k; a loss has none
abbrev pub label : List Listed → ℕ → Happening → List ℕ
label ls k (Takes p handed first o) = step_label (place ls p k) handed o
label ls k (Lies signer statement frame to) = lie_label (place ls signer k) statement
label ls k (Silent signer) = dot (codes "gone") (place ls signer k) 4
label ls k (Loses frame from to) = []
