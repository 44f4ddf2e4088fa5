-- A request in words becomes the line that submits it.
use Rattle.std.proofs.Common.{◌≡◌, inl, inr, ℕ, zero, suc, ◌+◌, ◌^◌, ◌<◌, ◌≤◌, ◌==◌, Bool, true, false, List, [], ◌∷◌, ◌++◌, length, map, Option, Some, None, Ok, Err, refl, sym, ap, ◌∙◌, arith}
use Rattle.std.specs.Prelude.{if◌then◌else◌, nat_le, codes, option_map}
use Rattle.std.specs.Fmt.{decimal}
use Rattle.std.specs.List.{join_with_byte, slice_split, list_any, All}
use Rattle.std.specs.Option.{option_flatten}
use Rattle.std.specs.Result.{result_ok}
use Rattle.std.proofs.lemmas.Bool.{le-leb}
use Rattle.std.proofs.lemmas.List.Splits.{slice_split_at}
use Rattle.hex.specs.Hex.{IsBytes}
use Rattle.byte_defs.specs.Choices.{and_then}
use Rattle.text_defs.specs.Words.{bytes_word, number_within, process_of, space, words_of}
use Rattle.text_defs.proofs.Lines.{decimal_has_no, has_byte, words_of_join}
use Rattle.text_defs.proofs.Numbers.{number_within_spelled}
use Rattle.text_defs.proofs.Tests.{or_false}
use Rattle.message_defs.specs.Limits.{most_payload_bytes}
use Rattle.story_defs.specs.PlainLines.{plain_line}
use Rattle.story_defs.specs.Texts.{Token, Word, Bytes, number, plain, shown}
use Rattle.story_defs.specs.Words.{hex_word, payload_of}
use Rattle.story_defs.proofs.HexWords.{hex_again}
use Rattle.story_laws.proofs.Again.{number_is}
use Rattle.story_laws.proofs.Scans.{AreTokens, line_on, no_gaps, plain_words}
use Rattle.store_defs.specs.Stores.{Command, Set, Get, Remove, Exchange, most_key_bytes, most_value_bytes}
use Rattle.store_text_defs.specs.declared.Filter.TheVariants.{Assemble}
use Rattle.store_text_defs.specs.Requests.{IsCommand, IsKey, IsRequest, IsValue, Request, asked_by, asked_tokens, asks, asks_by, command_by, command_tokens, if_short, is_verb, key_by, last_tag, request_by, request_bytes, request_in, request_tokens, submit_line, reported, value_by, verb_of}
use Rattle.store_text_defs.specs.Filters.{becomes, ended}
use Rattle.store_text_defs.specs.Laws.{WordsAreRequest}

-- ---- bytes

few_bytes : (most : ℕ) (bytes : List ℕ) → length bytes ≤ most → IsBytes bytes → payload_of most (bytes_word bytes) ≡ Some bytes
few_bytes most bytes few fits =
    ap (λ (o : Option (List ℕ)). and_then o (λ b. if nat_le (length b) most then Some b else None)) (hex_again bytes fits)
    ∙ rw (le-leb (length bytes) most few) refl

key_again : (key : List ℕ) → IsKey key → key_by (bytes_word key) ≡ Some key
key_again key is =
    let some : (length key == 0) ≡ false = grind (arith, is.some) in
    ap (λ (o : Option (List ℕ)). and_then o (λ k. if length k == 0 then None else Some k)) (few_bytes most_key_bytes key is.most is.bytes)
    ∙ rw some refl

value_again : (value : List ℕ) → IsValue value → value_by (bytes_word value) ≡ Some value
value_again value is = few_bytes most_value_bytes value is.most is.bytes

-- ---- the words

small : (tag : ℕ) → tag < 2 ^ 64 → tag ≤ last_tag
unfolding last_tag
small tag h = omega (arith, h)

-- the words of a command behind its key
abbrev words_after : Command → List (List ℕ)
words_after (Set key value) = bytes_word value ∷ []
words_after (Get key) = []
words_after (Remove key) = []
words_after (Exchange key expected value) = bytes_word expected ∷ bytes_word value ∷ []

abbrev key_in : Command → List ℕ
key_in (Set key value) = key
key_in (Get key) = key
key_in (Remove key) = key
key_in (Exchange key expected value) = key

is_key : (c : Command) → IsCommand c → IsKey (key_in c)
is_key (Set key value) is = is.0
is_key (Get key) is = is
is_key (Remove key) is = is
is_key (Exchange key expected value) is = is.0

read_again : (c : Command) → IsCommand c → command_by (verb_of c) (key_in c) (words_after c) ≡ Some c
read_again (Set key value) is = ap (λ (o : Option (List ℕ)). option_map (Set key) o) (value_again value is.1)
read_again (Get key) is = refl
read_again (Remove key) is = refl
read_again (Exchange key expected value) is = rw (value_again expected is.1, value_again value is.2) refl

asked_again : (tag : ℕ) (c : Command) → tag < 2 ^ 64 → IsCommand c
    → asked_by (verb_of c) (decimal tag) (bytes_word (key_in c)) (words_after c) ≡ Some (tag, c)
asked_again tag c low is = rw
    (number_within_spelled 0 last_tag tag (omega arith) (small tag low) low, key_again (key_in c) (is_key c is), read_again c is) refl

plain_is : (r : Request) → map plain (request_tokens r)
    ≡ decimal r.process ∷ verb_of r.command ∷ decimal r.tag ∷ bytes_word (key_in r.command) ∷ words_after r.command
plain_is r = of r.command
  where
    of : (c : Command) → map plain (number r.process ∷ asked_tokens r.tag c)
        ≡ decimal r.process ∷ verb_of c ∷ decimal r.tag ∷ bytes_word (key_in c) ∷ words_after c
    of (Set key value) = refl
    of (Get key) = refl
    of (Remove key) = refl
    of (Exchange key expected value) = refl

request_again : (r : Request) → IsRequest r → request_by (map plain (request_tokens r)) ≡ Some r
request_again r is =
    ap request_by (plain_is r) ∙ rw (
      number_within_spelled 0 63 r.process (omega arith) is.process (let p = is.process in omega (arith, p)),
      asked_again r.tag r.command is.tag is.command,
      le-leb (length (request_bytes r.tag r.command)) most_payload_bytes is.most,
    ) refl

-- ---- the line

verb_is : (c : Command) → AreTokens (Word (verb_of c) ∷ [])
verb_is (Set key value) = (inr refl, tt)
verb_is (Get key) = (inr refl, tt)
verb_is (Remove key) = (inr refl, tt)
verb_is (Exchange key expected value) = (inr refl, tt)

bytes_are : (c : Command) → AreTokens (command_tokens c)
bytes_are (Set key value) = (tt, (tt, tt))
bytes_are (Get key) = (tt, tt)
bytes_are (Remove key) = (tt, tt)
bytes_are (Exchange key expected value) = (tt, (tt, (tt, tt)))

tokens_are : (r : Request) → IsRequest r → AreTokens (request_tokens r)
tokens_are r is =
    (number_is r.process (let p = is.process in omega (arith, p)), ((verb_is r.command).0, (number_is r.tag is.tag, bytes_are r.command)))

in_again : (r : Request) → IsRequest r → request_in (reported (request_tokens r)) ≡ Some r
unfolding request_in
in_again r is =
    let are = tokens_are r is in
    let behind : List Token = asked_tokens r.tag r.command in
    ap (λ o. and_then (result_ok o) (λ line. request_by (words_of line))) (line_on (number r.process) behind are [])
    ∙ ap request_by (words_of_join (plain (number r.process)) (map plain behind) (no_gaps (request_tokens r) are))
    ∙ request_again r is

-- ---- that it asks for one

none_is : (text : List ℕ) → has_byte space text ≡ false → All (λ d. (d == space) ≡ false) text
none_is [] h k d l = absurd (omega arith)
none_is (x ∷ xs) h zero d l = (or_false (x == space) _ h).0
none_is (x ∷ xs) h (suc k) d l = none_is xs (or_false (x == space) _ h).1 k d (omega arith)

pub first_word : (word rest : List ℕ) → has_byte space word ≡ false → words_of (word ++ space ∷ rest) ≡ word ∷ words_of rest
first_word word rest none = slice_split_at (λ d. d == space) word space rest (none_is word none) refl

verb_gaps : (c : Command) → has_byte space (verb_of c) ≡ false
verb_gaps (Set key value) = refl
verb_gaps (Get key) = refl
verb_gaps (Remove key) = refl
verb_gaps (Exchange key expected value) = refl

verb_asks : (c : Command) → is_verb (verb_of c) ≡ true
verb_asks (Set key value) = refl
verb_asks (Get key) = refl
verb_asks (Remove key) = refl
verb_asks (Exchange key expected value) = refl

asks_again : (r : Request) → IsRequest r → asks (reported (request_tokens r)) ≡ true
unfolding asks
asks_again r is =
    let rest : List ℕ = reported (number r.tag ∷ command_tokens r.command) in
    ap asks_by (first_word (decimal r.process) (verb_of r.command ++ space ∷ rest)
    (decimal_has_no space r.process (omega arith) (let p = is.process in omega (arith, p)))
    ∙ ap (λ (ws : List (List ℕ)). decimal r.process ∷ ws) (first_word (verb_of r.command) rest (verb_gaps r.command)))
    ∙ verb_asks r.command

pub words_are_request : WordsAreRequest
words_are_request r is =
    ap (λ (b : Bool). if b then option_map submit_line (request_in (reported (request_tokens r))) else Some (ended (reported (request_tokens r))))
    (asks_again r is)
    ∙ ap (option_map submit_line) (in_again r is)
