-- Requests and answers as bytes: what is spelled is read, and told as it is.
use Rattle.std.proofs.Common.{◌≡◌, ℕ, ◌^◌, ◌<◌, ◌≤◌, List, [], ◌∷◌, ◌++◌, length, take, refl, sym, ap, ◌∙◌, Ok, Err, arith}
use Rattle.std.specs.Prelude.{◌==◌, nat_lt}
use Rattle.std.specs.Int.{w8, w16, w64, from_be_bytes, to_be_bytes}
use Rattle.std.proofs.lemmas.Bool.{le-ltb}
use Rattle.std.proofs.lemmas.List.{append-nil, take_at}
use Rattle.std.proofs.lemmas.Nat.{from_be_bytes-to_be_bytes_8}
use Rattle.byte_defs.specs.Fields.{◌>>=◌, refuse_if, number_at, bytes_at, text}
use Rattle.byte_defs.proofs.Fields.{byte_again, bytes_again, is_some}
use Rattle.store_defs.specs.Stores.{Answer, Done, Value, Absent, NoCommand, Full, Differs, Command, Set, Get, Remove, Exchange, Reading, command_behind, exchange_at, key_at, most_key_bytes, most_value_bytes, request_of, set_at, tag_bytes, text_within, value_at}
use Rattle.store_laws.proofs.Grammar.{bind_is, pass, within_again}
use Rattle.store_laws.proofs.Staying.{broken, done}
use Rattle.store_text_defs.specs.Requests.{IsCommand, IsKey, IsValue, asked_tokens, command_bytes, request_bytes, tag_of}
use Rattle.store_text_defs.specs.Answers.{answer_of}
use Rattle.store_text_defs.specs.Meanings.{payload_tokens, read_tokens}
use Rattle.store_text_defs.specs.Laws.{AnswerIsRead, PayloadIsReported, RequestIsRead}

-- ---- fields

key_again : (key rest : List ℕ) → IsKey key → key_at (length key ∷ (key ++ rest)) ≡ Ok (key, rest)
unfolding key_at
key_again key rest is =
    bind_is (number_at broken w8 (length key ∷ (key ++ rest)))
    (λ len. refuse_if (len.0 == 0) broken >>= λ _. refuse_if (nat_lt most_key_bytes len.0) broken >>= λ _. bytes_at broken len.0 len.1)
    (length key, key ++ rest) (Ok (key, rest)) (byte_again broken (length key) (key ++ rest))
    (pass (length key == 0) (λ _. refuse_if (nat_lt most_key_bytes (length key)) broken >>= λ _. bytes_at broken (length key) (key ++ rest))
    (is_some (length key) is.some)
    ∙ pass (nat_lt most_key_bytes (length key)) (λ _. bytes_at broken (length key) (key ++ rest)) (le-ltb _ _ is.most)
    ∙ bytes_again broken key rest)

value_again : (value rest : List ℕ) → IsValue value → value_at (text value ++ rest) ≡ Ok (value, rest)
value_again value rest is = within_again most_value_bytes value rest is.most (omega arith)

last_value : (value : List ℕ) → IsValue value → value_at (text value) ≡ Ok (value, [])
last_value value is = ap value_at (sym (append-nil (text value))) ∙ value_again value [] is

-- ---- the command behind a key

abbrev found : Command → Reading (Command × List ℕ)
found c = Ok (c, [])

set_again : (key value : List ℕ) → IsValue value → command_behind 1 key (text value) ≡ found (Set key value)
unfolding command_behind set_at
set_again key value is = bind_is (value_at (text value)) (λ v. done (Set key v.0, v.1)) (value, []) (found (Set key value)) (last_value value is) refl

get_again : (key : List ℕ) → command_behind 2 key [] ≡ found (Get key)
unfolding command_behind
get_again key = refl

remove_again : (key : List ℕ) → command_behind 3 key [] ≡ found (Remove key)
unfolding command_behind
remove_again key = refl

exchange_again : (key expected value : List ℕ) → IsValue expected → IsValue value
    → command_behind 4 key (text expected ++ text value) ≡ found (Exchange key expected value)
unfolding command_behind exchange_at
exchange_again key expected value old new =
    bind_is (value_at (text expected ++ text value)) (λ x. value_at x.1 >>= (λ v. done (Exchange key x.0 v.0, v.1))) (expected, text value)
    (found (Exchange key expected value)) (value_again expected (text value) old)
    (bind_is (value_at (text value)) (λ v. done (Exchange key expected v.0, v.1)) (value, []) (found (Exchange key expected value))
    (last_value value new) refl)

-- ---- the whole

abbrev end_request : Command × List ℕ → Reading Command
end_request command = refuse_if (nat_lt 0 (length command.1)) broken >>= λ _. done command.0

abbrev then_key : ℕ → List ℕ × List ℕ → Reading Command
then_key what key = command_behind what key.0 key.1 >>= end_request

abbrev then_what : ℕ × List ℕ → Reading Command
then_what what = key_at what.1 >>= then_key what.0

abbrev then_tag : List ℕ × List ℕ → Reading Command
then_tag tag = number_at broken w8 tag.1 >>= then_what

tag_long : (tag : ℕ) → length (to_be_bytes w64 tag) ≡ tag_bytes
tag_long tag = refl

again : (tag what : ℕ) (key rest : List ℕ) (c : Command) → IsKey key → command_behind what key rest ≡ found c
    → request_of (to_be_bytes w64 tag ++ what ∷ length key ∷ (key ++ rest)) ≡ Ok c
unfolding request_of
again tag what key rest c is e =
    let y : Reading Command = Ok c in
    let front : List ℕ = to_be_bytes w64 tag in
    let behind : List ℕ = length key ∷ (key ++ rest) in
    bind_is (bytes_at broken tag_bytes (front ++ what ∷ behind)) then_tag (front, what ∷ behind) y
    (ap (λ (n : ℕ). bytes_at broken n (front ++ what ∷ behind)) (sym (tag_long tag)) ∙ bytes_again broken front (what ∷ behind))
    (bind_is (number_at broken w8 (what ∷ behind)) then_what (what, behind) y (byte_again broken what behind)
    (bind_is (key_at behind) (then_key what) (key, rest) y (key_again key rest is)
    (bind_is (command_behind what key rest) end_request (c, []) y e refl)))

-- with a key alone
again_alone : (tag what : ℕ) (key : List ℕ) (c : Command) → IsKey key → command_behind what key [] ≡ found c
    → request_of (to_be_bytes w64 tag ++ what ∷ length key ∷ key) ≡ Ok c
again_alone tag what key c is e =
    ap (λ (k : List ℕ). request_of (to_be_bytes w64 tag ++ what ∷ length key ∷ k)) (sym (append-nil key)) ∙ again tag what key [] c is e

command_again : (tag : ℕ) (c : Command) → IsCommand c → request_of (request_bytes tag c) ≡ Ok c
command_again tag (Set key value) is = again tag 1 key (text value) (Set key value) is.0 (set_again key value is.1)
command_again tag (Get key) is = again_alone tag 2 key (Get key) is (get_again key)
command_again tag (Remove key) is = again_alone tag 3 key (Remove key) is (remove_again key)
command_again tag (Exchange key expected value) is =
    again tag 4 key (text expected ++ text value) (Exchange key expected value) is.0 (exchange_again key expected value is.1 is.2)

tag_again : (tag : ℕ) (c : Command) → tag < 2 ^ 64 → tag_of (request_bytes tag c) ≡ tag
tag_again tag c small =
    ap (from_be_bytes w64) (take_at (to_be_bytes w64 tag) (command_bytes c) tag_bytes (tag_long tag)) ∙ from_be_bytes-to_be_bytes_8 tag small

pub request_is_read : RequestIsRead
request_is_read tag c small is = (command_again tag c is, tag_again tag c small)

-- ---- what is told of them

pub payload_is_reported : PayloadIsReported
payload_is_reported tag c small is =
    let payload : List ℕ = request_bytes tag c in
    ap (read_tokens (tag_of payload)) (command_again tag c is) ∙ ap (λ (t : ℕ). asked_tokens t c) (tag_again tag c small)

pub answer_is_read : AnswerIsRead
answer_is_read Done = refl
answer_is_read (Value value) = refl
answer_is_read Absent = refl
answer_is_read NoCommand = refl
answer_is_read Full = refl
answer_is_read (Differs value) = refl
