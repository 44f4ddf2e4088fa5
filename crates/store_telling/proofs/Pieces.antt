-- Lines that are told, piece by piece.
use Rattle.std.proofs.Common.{◌≡◌, ℕ, ◌<◌, List, [], ◌∷◌, ◌++◌, length, codes, Option, Some, None, Ok, Err, refl, sym, ap, ◌∙◌, append_assoc, arith}
use Rattle.std.specs.Prelude.{option_map}
use Rattle.std.proofs.lemmas.List.{append-nil}
use Rattle.story_defs.specs.Texts.{Token, Word, shown}
use Rattle.story_writing.specs.Tokens.{behind}
use Rattle.story_writing.proofs.TokenLines.{behind_joined, line_is}
use Rattle.store_defs.specs.Stores.{Answer, Command, Reading, request_of}
use Rattle.store_defs.specs.Stores as stores
use Rattle.store_defs.specs.Records.{Reply}
use Rattle.store_text_defs.specs.Answers.{answer_of, answer_tokens, said_or, said_tokens}
use Rattle.store_text_defs.specs.Meanings.{payload_tokens, perhaps, read_tokens, reply_tokens, sentence, reported_line}
use Rattle.store_text_defs.specs.Requests.{tag_of}
use Rattle.store_telling.specs.Pieces.{offered_lines, place_tokens, reported_text}

pub nothing_reported : (out : List ℕ) → out ++ reported_text [] ≡ out
unfolding reported_text
nothing_reported out = append-nil out

pub lines_behind : (t : List Token) (ts : List (List Token)) → reported_text (t ∷ ts) ≡ reported_text (t ∷ []) ++ reported_text ts
unfolding reported_text
lines_behind t ts = ap (λ (line : List ℕ). line ++ reported_text ts) (sym (append-nil (reported_line t)))

line_text : (out : List ℕ) (t : Token) (ts : List Token) → ((out ++ 32 ∷ []) ++ behind (t ∷ ts)) ++ 10 ∷ [] ≡ out ++ reported_line (t ∷ ts)
line_text out t ts =
    append_assoc (out ++ 32 ∷ []) (behind (t ∷ ts)) (10 ∷ [])
    ∙ append_assoc out (32 ∷ []) (behind (t ∷ ts) ++ 10 ∷ [])
    ∙ ap (λ (line : List ℕ). out ++ 32 ∷ 32 ∷ line) (append_assoc (shown t) (behind ts) (10 ∷ []) ∙ sym (line_is (shown t) ts))

-- a blank, the tokens behind it and the end of the line
pub reported_by : (out one two new : List ℕ) (ts : List Token) → 0 < length ts → one ≡ out ++ 32 ∷ [] → two ≡ one ++ behind ts
    → new ≡ two ++ 10 ∷ [] → new ≡ out ++ reported_text (ts ∷ [])
unfolding reported_text
reported_by out one two new [] some e f g = absurd (omega (arith, some))
reported_by out one two new (t ∷ ts) some e f g =
    g ∙ ap (λ (x : List ℕ). x ++ 10 ∷ []) (f ∙ ap (λ (x : List ℕ). x ++ behind (t ∷ ts)) e)
    ∙ line_text out t ts
    ∙ ap (λ (x : List ℕ). out ++ x) (sym (append-nil (reported_line (t ∷ ts))))

-- ---- tokens, one at least

asked_some : (g : ℕ) (r : Reading Command) → 0 < length (read_tokens g r)
asked_some g (Ok c) = omega arith
asked_some g (Err f) = omega arith

pub payload_some : (payload : List ℕ) → 0 < length (payload_tokens payload)
payload_some payload = asked_some (tag_of payload) (request_of payload)

answer_some : (a : Answer) → 0 < length (answer_tokens a)
answer_some stores.Done = omega arith
answer_some (stores.Value value) = omega arith
answer_some stores.Absent = omega arith
answer_some stores.NoCommand = omega arith
answer_some stores.Full = omega arith
answer_some (stores.Differs value) = omega arith

said_by : (bytes : List ℕ) (o : Option Answer) → 0 < length (said_or bytes o)
said_by bytes None = omega arith
said_by bytes (Some a) = answer_some a

pub said_some : (bytes : List ℕ) → 0 < length (said_tokens bytes)
said_some bytes = said_by bytes (answer_of bytes)

-- ---- a reply

pub reply_reported : (out : List ℕ) (r : Reply)
    → (((out ++ behind (place_tokens r)) ++ behind (payload_tokens r.payload)) ++ behind (Word (codes ":") ∷ [])) ++ behind (said_tokens r.answer)
    ≡ out ++ behind (reply_tokens r)
reply_reported out r =
    let place = place_tokens r in
    let payload = payload_tokens r.payload in
    let colon : List Token = Word (codes ":") ∷ [] in
    let said = said_tokens r.answer in
    append_assoc ((out ++ behind place) ++ behind payload) (behind colon) (behind said)
    ∙ append_assoc (out ++ behind place) (behind payload) (behind colon ++ behind said)
    ∙ append_assoc out (behind place) (behind payload ++ (behind colon ++ behind said))
    ∙ ap (λ (x : List ℕ). out ++ (behind place ++ (behind payload ++ x))) (sym (behind_joined colon said))
    ∙ ap (λ (x : List ℕ). out ++ (behind place ++ x)) (sym (behind_joined payload (colon ++ said)))
    ∙ ap (λ (x : List ℕ). out ++ x) (sym (behind_joined place (payload ++ (colon ++ said))))

-- ---- an offer

pub refused_reported : (o : Option (List ℕ)) → offered_lines (option_map sentence o) ≡ perhaps o
refused_reported None = refl
refused_reported (Some text) = refl
