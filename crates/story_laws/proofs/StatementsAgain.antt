-- A statement in words is read again.
use Rattle.std.proofs.Common.{◌≡◌, inl, inr, ℕ, zero, suc, ◌+◌, ◌^◌, ◌<◌, ◌≤◌, ◌==◌, Bool, true, false, List, [], ◌∷◌, ◌++◌, length, map, Option, Some, None, Result, Ok, Err, refl, sym, ap, subst, ◌∙◌, arith, append_assoc, append-nil}
use Rattle.std.specs.Prelude.{if◌then◌else◌, nat_le, codes, IsOk}
use Rattle.std.specs.Fmt.{decimal}
use Rattle.std.specs.List.{AllByRecursion, flat_map}
use Rattle.hex.specs.Hex.{IsBytes}
use Rattle.byte_defs.specs.Equality.{same_bytes}
use Rattle.byte_defs.specs.Fields.{◌>>=◌, two_bytes, text}
use Rattle.text_defs.specs.Words.{bytes_word}
use Rattle.message_defs.specs.declared.FrameFault.{FrameFault}
use Rattle.message_defs.specs.Updates.{Update, Remove, Add, Renew, Value}
use Rattle.message_defs.specs.Statements.{Message, Batch, Statement, Init, Echo, Order, Place, Keep, Notify, End, Last, Suggest, Ack, Ready}
use Rattle.message_defs.specs.Spelling.{spelling, message_bytes, IsMessage, IsBatch, IsUpdate, IsValue, IsReport, IsStatement}
use Rattle.message_defs.specs.Reading.{statement_of}
use Rattle.statements.proofs.Grammar.{statement_takes}
use Rattle.story_defs.specs.declared.Expected.{Expected}
use Rattle.story_defs.specs.declared.Expected.TheVariants.{Lie}
use Rattle.story_defs.specs.Words.{Words, number_at, process_at}
use Rattle.story_defs.specs.Statements.{update_at, value_at, message_at, messages_behind, batch_at, ready_at, report_at, view_at, init_at, echo_at, placed_at, notify_at, end_at, last_at, valued_at, content_at, worded_at, spelled_at, statement_at}
use Rattle.story_defs.specs.Texts.{Token, Word, Bytes, number, plain, update_tokens, value_tokens, message_tokens, report_tokens, kind_tokens, worded, statement_read, statement_tokens}
use Rattle.story_laws.proofs.Scans.{AreTokens}
use Rattle.story_laws.proofs.Again.{are_joined, fits_behind, map_joined, not_none, number_again, number_is, payload_again, process_again}

-- ---- parts

update_again : (u : Update) (rest : Words) → IsUpdate u → update_at Lie (map plain (update_tokens u) ++ rest) ≡ Ok (u, rest)
unfolding update_at
update_again (Remove p) rest fits = rw (process_again Lie p rest fits) refl
update_again (Add p) rest fits = rw (process_again Lie p rest fits) refl
update_again Renew rest fits = refl

value_words : (u : Update) (cut : ℕ) → map plain (update_tokens u ++ number cut ∷ []) ≡ map plain (update_tokens u) ++ decimal cut ∷ []
value_words (Remove p) cut = refl
value_words (Add p) cut = refl
value_words Renew cut = refl

value_again : (v : Value) → IsValue v → value_at Lie (map plain (value_tokens v)) ≡ Ok (v, [])
unfolding value_at
value_again v fits =
    ap (value_at Lie) (value_words v.update v.cut)
    ∙ rw (
      update_again v.update (decimal v.cut ∷ []) fits.0,
      number_again Lie 0 1024 v.cut [] (omega arith) fits.1 (omega (arith, fits.1)),
    ) refl

message_again : (m : Message) (rest : Words) → IsMessage m → message_at Lie (decimal m.sender ∷ decimal m.number ∷ rest) ≡ Ok (m, rest)
unfolding message_at
message_again m rest fits = rw (
  process_again Lie m.sender (decimal m.number ∷ rest) fits.0,
  number_again Lie 0 1023 m.number rest (omega arith) fits.1 (omega (arith, fits.1)),
) refl

messages_again : (n : ℕ) (before ms : Batch) → length ms ≤ n → AllByRecursion IsMessage ms
    → messages_behind Lie n before (map plain (flat_map message_tokens ms)) ≡ Ok (before ++ ms)
unfolding messages_behind
messages_again n before [] few each = let done : Batch → Result Batch Expected = λ b. Ok b in ap done (sym (append-nil before))
messages_again zero before (m ∷ ms) few each = absurd (omega (arith, few))
messages_again (suc n) before (m ∷ ms) few each =
    let done : Batch → Result Batch Expected = λ b. Ok b in
    rw (message_again m (map plain (flat_map message_tokens ms)) each.0)
    (messages_again n (before ++ m ∷ []) ms (omega (arith, few)) each.1)
    ∙ ap done (append_assoc before (m ∷ []) ms)

batch_again : (b : Batch) → IsBatch b → batch_at Lie (map plain (flat_map message_tokens b)) ≡ Ok b
unfolding batch_at
batch_again [] fits = absurd (omega (arith, fits.some))
batch_again (m ∷ ms) fits = rw (message_again m (map plain (flat_map message_tokens ms)) fits.each.0)
    (messages_again 15 (m ∷ []) ms (omega (arith, fits.few)) fits.each.1)

ready_again : (below rank : ℕ) (v : Value) → below ≤ 15 → rank < below → IsValue v
    → ready_at Lie below (decimal rank ∷ map plain (value_tokens v)) ≡ Ok ((rank, v), [])
unfolding ready_at
ready_again below rank v most less fits =
    let lower : nat_le below rank ≡ false = grind (arith, less) in
    rw (
      number_again Lie 0 15 rank (map plain (value_tokens v)) (omega arith) (omega (arith, most, less)) (omega (arith, most, less)),
      lower,
      value_again v fits,
    ) refl

report_again : (r : ℕ) (ready : Option (ℕ × Value)) → r ≤ 15 → IsReport r ready
    → report_at Lie r (map plain (report_tokens ready)) ≡ Ok (ready, [])
unfolding report_at
report_again r None most fits = refl
report_again r (Some ready) most fits = rw
    (not_none ready.0 (omega (arith, most, fits.0)), ready_again r ready.0 ready.1 most fits.0 fits.1) refl

-- ---- contents

-- a payload has bytes
abbrev IsFit : Statement → Type 0
IsFit (Init x l payload) = IsBytes payload
IsFit (Echo x m payload) = IsBytes payload
IsFit _ = Unit {0}

init_again : (x l : ℕ) (payload : List ℕ) → IsStatement (Init x l payload) → IsBytes payload
    → init_at Lie x (decimal l ∷ bytes_word payload ∷ []) ≡ Ok (Init x l payload)
unfolding init_at
init_again x l payload fits bytes = rw (
  number_again Lie 0 1023 l (bytes_word payload ∷ []) (omega arith) fits.1 (omega (arith, fits.1)),
  payload_again Lie 1024 payload [] bytes fits.2,
) refl

echo_again : (x : ℕ) (m : Message) (payload : List ℕ) → IsStatement (Echo x m payload) → IsBytes payload
    → echo_at Lie x (decimal m.sender ∷ decimal m.number ∷ bytes_word payload ∷ []) ≡ Ok (Echo x m payload)
unfolding echo_at
echo_again x m payload fits bytes = rw
    (message_again m (bytes_word payload ∷ []) fits.1, payload_again Lie 1024 payload [] bytes fits.2) refl

placed_again : (kind : ℕ → ℕ → Batch → Statement) (x k : ℕ) (b : Batch) → k ≤ 1023 → IsBatch b
    → placed_at Lie kind x (decimal k ∷ map plain (flat_map message_tokens b)) ≡ Ok (kind x k b)
unfolding placed_at
placed_again kind x k b place fits = rw
    (number_again Lie 0 1023 k (map plain (flat_map message_tokens b)) (omega arith) place (omega (arith, place)), batch_again b fits) refl

notify_again : (x : ℕ) (u : Update) → IsUpdate u → notify_at Lie x (map plain (update_tokens u)) ≡ Ok (Notify x u)
unfolding notify_at
notify_again x u fits = ap (notify_at Lie x) (sym (append-nil (map plain (update_tokens u)))) ∙ rw (update_again u [] fits) refl

end_again : (x k : ℕ) → k ≤ 1024 → end_at Lie x (decimal k ∷ []) ≡ Ok (End x k)
unfolding end_at
end_again x k most = rw (number_again Lie 0 1024 k [] (omega arith) most (omega (arith, most))) refl

last_again : (x r : ℕ) (ready : Option (ℕ × Value)) → r ≤ 15 → IsReport r ready
    → last_at Lie x (decimal r ∷ map plain (report_tokens ready)) ≡ Ok (Last x r ready)
unfolding last_at
last_again x r ready most fits = rw (
  number_again Lie 0 15 r (map plain (report_tokens ready)) (omega arith) most (omega (arith, most)),
  report_again r ready most fits,
) refl

valued_again : (kind : ℕ → ℕ → Value → Statement) (x r : ℕ) (v : Value) → r ≤ 15 → IsValue v
    → valued_at Lie kind x (decimal r ∷ map plain (value_tokens v)) ≡ Ok (kind x r v)
unfolding valued_at
valued_again kind x r v most fits = rw
    (number_again Lie 0 15 r (map plain (value_tokens v)) (omega arith) most (omega (arith, most)), value_again v fits) refl

-- ---- the view and the kind

view_by : (view : ℕ) (kind : List ℕ) (more : List Token) (none : Bool) → view ≤ 1023 → same_bytes kind (codes "in") ≡ false
    → (view == 0) ≡ none
    → worded_at Lie (map plain ((if none then Word kind ∷ [] else Word (codes "in") ∷ number view ∷ Word kind ∷ []) ++ more))
    ≡ content_at Lie view kind (map plain more)
unfolding worded_at view_at
view_by view kind more true fits other e =
    let zero_is : 0 ≡ view = grind (arith, e) in
    rw other (ap (λ x. content_at Lie x kind (map plain more)) zero_is)
view_by view kind more false fits other e = rw
    (number_again Lie 0 1023 view (kind ∷ map plain more) (omega arith) fits (omega (arith, fits))) refl

kind_said : (view : ℕ) (kind : List ℕ) (more : List Token) → view ≤ 1023 → same_bytes kind (codes "in") ≡ false
    → worded_at Lie (map plain (kind_tokens view kind ++ more)) ≡ content_at Lie view kind (map plain more)
kind_said view kind more fits other = view_by view kind more (view == 0) fits other refl

worded_again : (st : Statement) → IsStatement st → IsFit st → worded_at Lie (map plain (worded st)) ≡ Ok st
unfolding content_at
worded_again (Init x l payload) fits bytes = kind_said x (codes "init")
    (number l ∷ Bytes payload ∷ []) fits.0 refl ∙ init_again x l payload fits bytes
worded_again (Echo x m payload) fits bytes = kind_said x (codes "echo")
    (message_tokens m ++ Bytes payload ∷ []) fits.0 refl ∙ echo_again x m payload fits bytes
worded_again (Order x k b) fits bytes = kind_said x (codes "order")
    (number k ∷ flat_map message_tokens b) fits.0 refl ∙ placed_again Order x k b fits.1 fits.2
worded_again (Place x k b) fits bytes = kind_said x (codes "place")
    (number k ∷ flat_map message_tokens b) fits.0 refl ∙ placed_again Place x k b fits.1 fits.2
worded_again (Keep x k b) fits bytes = kind_said x (codes "keep")
    (number k ∷ flat_map message_tokens b) fits.0 refl ∙ placed_again Keep x k b fits.1 fits.2
worded_again (Notify x u) fits bytes = kind_said x (codes "notify") (update_tokens u) fits.0 refl ∙ notify_again x u fits.1
worded_again (End x k) fits bytes = kind_said x (codes "end") (number k ∷ []) fits.0 refl ∙ end_again x k fits.1
worded_again (Last x r ready) fits bytes = kind_said x (codes "last")
    (number r ∷ report_tokens ready) fits.0 refl ∙ last_again x r ready fits.1 fits.2
worded_again (Suggest x r v) fits bytes = kind_said x (codes "suggest")
    (number r ∷ value_tokens v) fits.0 refl ∙ valued_again Suggest x r v fits.1 fits.2
worded_again (Ack x r v) fits bytes = kind_said x (codes "ack")
    (number r ∷ value_tokens v) fits.0 refl ∙ valued_again Ack x r v fits.1 fits.2
worded_again (Ready x r v) fits bytes = kind_said x (codes "ready")
    (number r ∷ value_tokens v) fits.0 refl ∙ valued_again Ready x r v fits.1 fits.2

-- ---- in several words

several_by : (view : ℕ) (kind : List ℕ) (t : Token) (ts : List Token) (none : Bool)
    → (let words = map plain ((if none then Word kind ∷ [] else Word (codes "in") ∷ number view ∷ Word kind ∷ [])
    ++ t ∷ ts) in statement_at Lie words ≡ spelled_at Lie words)
unfolding statement_at
several_by view kind t ts true = refl
several_by view kind t ts false = refl

several : (view : ℕ) (kind : List ℕ) (t : Token) (ts : List Token)
    → statement_at Lie (map plain (kind_tokens view kind ++ t ∷ ts)) ≡ spelled_at Lie (map plain (kind_tokens view kind ++ t ∷ ts))
several view kind t ts = several_by view kind t ts (view == 0)

in_words : (st : Statement) → statement_at Lie (map plain (worded st)) ≡ spelled_at Lie (map plain (worded st))
in_words (Init x l payload) = several x (codes "init") (number l) (Bytes payload ∷ [])
in_words (Echo x m payload) = several x (codes "echo") (number m.sender) (number m.number ∷ Bytes payload ∷ [])
in_words (Order x k b) = several x (codes "order") (number k) (flat_map message_tokens b)
in_words (Place x k b) = several x (codes "place") (number k) (flat_map message_tokens b)
in_words (Keep x k b) = several x (codes "keep") (number k) (flat_map message_tokens b)
in_words (Notify x (Remove p)) = several x (codes "notify") (Word (codes "remove")) (number p ∷ [])
in_words (Notify x (Add p)) = several x (codes "notify") (Word (codes "add")) (number p ∷ [])
in_words (Notify x Renew) = several x (codes "notify") (Word (codes "renew")) []
in_words (End x k) = several x (codes "end") (number k) []
in_words (Last x r ready) = several x (codes "last") (number r) (report_tokens ready)
in_words (Suggest x r v) = several x (codes "suggest") (number r) (value_tokens v)
in_words (Ack x r v) = several x (codes "ack") (number r) (value_tokens v)
in_words (Ready x r v) = several x (codes "ready") (number r) (value_tokens v)

fit : (st : Statement) → IsBytes (spelling st) → IsFit st
fit (Init x l payload) h = fits_behind (two_bytes (length payload)) payload
    (fits_behind (two_bytes x ++ two_bytes l) (text payload) (λ i. h (suc i)))
fit (Echo x m payload) h = fits_behind (two_bytes (length payload)) payload
    (fits_behind (two_bytes x ++ message_bytes m) (text payload) (λ i. h (suc i)))
fit (Order x k b) h = tt
fit (Place x k b) h = tt
fit (Keep x k b) h = tt
fit (Notify x u) h = tt
fit (End x k) h = tt
fit (Last x r ready) h = tt
fit (Suggest x r v) h = tt
fit (Ack x r v) h = tt
fit (Ready x r v) h = tt

abbrev Read : Type 0
Read = Result Statement FrameFault

abbrev spelled : Result Statement Expected → Result (List ℕ) Expected
spelled r = r >>= λ st. Ok (spelling st)

read_by : (bytes : List ℕ) (r : Read) → statement_of bytes ≡ r → IsOk r → IsBytes bytes
    → statement_at Lie (map plain (statement_read bytes r)) ≡ Ok bytes
unfolding statement_of
read_by bytes (Err fault) e ok fits = absurd cc
read_by bytes (Ok st) e ok fits =
    let t = statement_takes (λ kind. true) bytes st e in
    let done : List ℕ → Result (List ℕ) Expected = λ b. Ok b in
    let is = t.1 fits in
    in_words st ∙ ap spelled (worded_again st t.0 (fit st (subst IsBytes is fits))) ∙ ap done (sym is)

pub statement_again : (bytes : List ℕ) → IsOk (statement_of bytes) → IsBytes bytes
    → statement_at Lie (map plain (statement_tokens bytes)) ≡ Ok bytes
statement_again bytes ok fits = read_by bytes (statement_of bytes) refl ok fits

-- ---- tokens

kind_are_by : (view : ℕ) (kind : List ℕ) (none : Bool) → AreTokens (Word kind ∷ []) → view ≤ 1023
    → AreTokens (if none then Word kind ∷ [] else Word (codes "in") ∷ number view ∷ Word kind ∷ [])
kind_are_by view kind true are fits = are
kind_are_by view kind false are fits = (inr refl, (number_is view (omega (arith, fits)), are))

kind_are : (view : ℕ) (kind : List ℕ) (more : List Token) → AreTokens (Word kind ∷ []) → view ≤ 1023 → AreTokens more
    → AreTokens (kind_tokens view kind ++ more)
kind_are view kind more are fits others = are_joined (kind_tokens view kind) more (kind_are_by view kind (view == 0) are fits) others

update_are : (u : Update) → IsUpdate u → AreTokens (update_tokens u)
update_are (Remove p) fits = (inr refl, (number_is p (omega (arith, fits)), tt))
update_are (Add p) fits = (inr refl, (number_is p (omega (arith, fits)), tt))
update_are Renew fits = (inr refl, tt)

value_are : (v : Value) → IsValue v → AreTokens (value_tokens v)
value_are v fits = are_joined (update_tokens v.update) (number v.cut ∷ []) (update_are v.update fits.0)
    (number_is v.cut (omega (arith, fits.1)), tt)

message_are : (m : Message) → IsMessage m → AreTokens (message_tokens m)
message_are m fits = (number_is m.sender (omega (arith, fits.0)), (number_is m.number (omega (arith, fits.1)), tt))

messages_are : (ms : Batch) → AllByRecursion IsMessage ms → AreTokens (flat_map message_tokens ms)
messages_are [] each = tt
messages_are (m ∷ ms) each = are_joined (message_tokens m) (flat_map message_tokens ms) (message_are m each.0) (messages_are ms each.1)

report_are : (r : ℕ) (ready : Option (ℕ × Value)) → r ≤ 15 → IsReport r ready → AreTokens (report_tokens ready)
report_are r None most fits = (inr refl, tt)
report_are r (Some ready) most fits = (number_is ready.0 (omega (arith, most, fits.0)), value_are ready.1 fits.1)

worded_are : (st : Statement) → IsStatement st → AreTokens (worded st)
worded_are (Init x l payload) fits = kind_are x (codes "init") _ (inr refl, tt) fits.0 (number_is l (omega (arith, fits.1)), (tt, tt))
worded_are (Echo x m payload) fits = kind_are x (codes "echo") _ (inr refl, tt) fits.0
    (are_joined (message_tokens m) (Bytes payload ∷ []) (message_are m fits.1) (tt, tt))
worded_are (Order x k b) fits = kind_are x (codes "order") _ (inr refl, tt) fits.0
    (number_is k (omega (arith, fits.1)), messages_are b fits.2.each)
worded_are (Place x k b) fits = kind_are x (codes "place") _ (inr refl, tt) fits.0
    (number_is k (omega (arith, fits.1)), messages_are b fits.2.each)
worded_are (Keep x k b) fits = kind_are x (codes "keep") _ (inr refl, tt) fits.0
    (number_is k (omega (arith, fits.1)), messages_are b fits.2.each)
worded_are (Notify x u) fits = kind_are x (codes "notify") _ (inr refl, tt) fits.0 (update_are u fits.1)
worded_are (End x k) fits = kind_are x (codes "end") _ (inr refl, tt) fits.0 (number_is k (omega (arith, fits.1)), tt)
worded_are (Last x r ready) fits = kind_are x (codes "last") _ (inr refl, tt) fits.0
    (number_is r (omega (arith, fits.1)), report_are r ready fits.1 fits.2)
worded_are (Suggest x r v) fits = kind_are x (codes "suggest") _ (inr refl, tt) fits.0
    (number_is r (omega (arith, fits.1)), value_are v fits.2)
worded_are (Ack x r v) fits = kind_are x (codes "ack") _ (inr refl, tt) fits.0 (number_is r (omega (arith, fits.1)), value_are v fits.2)
worded_are (Ready x r v) fits = kind_are x (codes "ready") _ (inr refl, tt) fits.0 (number_is r (omega (arith, fits.1)), value_are v fits.2)

read_are : (bytes : List ℕ) (r : Read) → statement_of bytes ≡ r → AreTokens (statement_read bytes r)
unfolding statement_of
read_are bytes (Ok st) e = worded_are st (statement_takes (λ kind. true) bytes st e).0
read_are bytes (Err fault) e = (tt, tt)

pub statement_are : (bytes : List ℕ) → AreTokens (statement_tokens bytes)
statement_are bytes = read_are bytes (statement_of bytes) refl
