-- What is told of a line, by its words.
use Rattle.std.proofs.Common.{◌≡◌, inl, inr, ℕ, suc, ◌+◌, ◌*◌, ◌/◌, ◌^◌, ◌<◌, ◌≤◌, ◌==◌, Bool, true, false, List, [], ◌∷◌, ◌++◌, length, map, Option, Some, None, Result, Ok, Err, refl, sym, ap, subst, ◌∙◌, arith}
use Rattle.std.specs.Prelude.{if◌then◌else◌, nat_le, codes}
use Rattle.std.specs.Fmt.{decimal}
use Rattle.std.specs.List.{flat_map, join_with_byte, list_any}
use Rattle.std.specs.Option.{option_map_or}
use Rattle.std.specs.Result.{result_ok}
use Rattle.std.proofs.lemmas.Bool.{eq-eqb, le-leb}
use Rattle.std.proofs.lemmas.List.{append-nil, append_cancel_right}
use Rattle.hex.specs.Hex.{IsBytes, encode_lower, lower_digits}
use Rattle.hex.proofs.HexLemmas.{length-encode_with}
use Rattle.byte_defs.specs.Choices.{and_then}
use Rattle.text_defs.specs.Words.{bytes_of, bytes_word, line_text, process_of, space, words_of}
use Rattle.text_defs.proofs.Bytes.{bytes_spelled}
use Rattle.text_defs.proofs.Lines.{decimal_has_no, has_byte, hex_has_no, words_of_join}
use Rattle.text_defs.proofs.Numbers.{number_within_spelled}
use Rattle.story_defs.specs.Texts.{Token}
use Rattle.story_defs.specs.Words.{hex_word}
use Rattle.story_defs.proofs.HexWords.{hex_again}
use Rattle.store_defs.specs.Stores.{Store, store_of}
use Rattle.store_defs.specs.Records.{Reply, StateRecord, IsReply, IsStateRecord, reply_bytes, reply_of, state_bytes, state_record_of}
use Rattle.store_defs.specs.Asking.{record_by}
use Rattle.store_defs.specs.Words.{given_text, some_bytes_of, reported_text}
use Rattle.store_laws.proofs.Grammar.{store_is_read}
use Rattle.store_laws.proofs.RecordGrammar.{reply_is_read, state_is_read}
use Rattle.store_text_defs.specs.Answers.{said_tokens}
use Rattle.store_text_defs.specs.Filters.{ended}
use Rattle.store_text_defs.specs.Meanings.{lines_by, meaning, one_line, payload_tokens, reply_or, reply_said, reply_tokens, state_by, state_or, state_said, store_lines, reported_line}
use Rattle.store_text_laws.specs.Reported.{AcceptedIsReported, DeliveryIsReported, ReplyIsReported, StateIsReported}

-- ---- the words of a line

-- what a line of these words says
said : (line word : List ℕ) (words : List (List ℕ)) → ended line ≡ line_text (word ∷ words) → list_any (has_byte space) (word ∷ words) ≡ false
    → meaning line ≡ flat_map reported_line (lines_by (word ∷ words))
unfolding meaning
said line word words e none =
    let same : line ≡ join_with_byte space (word ∷ words) = append_cancel_right line (join_with_byte space (word ∷ words)) (10 ∷ []) e in
    ap (λ (ws : List (List ℕ)). flat_map reported_line (lines_by ws)) (ap words_of same ∙ words_of_join word words none)

-- one line that is told
alone : (tokens : List Token) → flat_map reported_line (one_line tokens) ≡ reported_line tokens
alone tokens = append-nil (reported_line tokens)

-- ---- words without a space

number_gap : (n : ℕ) → n < 2 ^ 64 → has_byte space (decimal n) ≡ false
number_gap n small = decimal_has_no space n (omega arith) small

hex_gap : (bytes : List ℕ) → has_byte space (encode_lower bytes) ≡ false
hex_gap bytes = hex_has_no space bytes (omega arith) (omega arith)

payload_gap : (bytes : List ℕ) → has_byte space (bytes_word bytes) ≡ false
payload_gap [] = refl
payload_gap (b ∷ bytes) = hex_gap (b ∷ bytes)

-- ---- bytes

some_again : (bytes : List ℕ) → 1 ≤ length bytes → IsBytes bytes → some_bytes_of (encode_lower bytes) ≡ Some bytes
some_again bytes some fits =
    let len : length (encode_lower bytes) ≡ 2 * length bytes = length-encode_with lower_digits bytes in
    let half : length (encode_lower bytes) / 2 ≡ length bytes = omega (arith, len) in
    rw (le-leb 2 (length (encode_lower bytes)) (omega (arith, len, some)))
    (ap (λ (n : ℕ). bytes_of n (encode_lower bytes)) half ∙ bytes_spelled (length bytes) bytes (refl, fits))

small : (p : ℕ) → p ≤ 63 → p < 2 ^ 64
small p few = omega (arith, few)

process_again : (p : ℕ) → p ≤ 63 → process_of (decimal p) ≡ Some p
process_again p few = number_within_spelled 0 63 p (omega arith) few (small p few)

itself : (p : ℕ) → (p == p) ≡ true
itself p = eq-eqb p p refl

-- ---- deliveries

pub delivery_is_reported : DeliveryIsReported
delivery_is_reported me x d line is fits e =
    said line (codes "deliver")
    (decimal me ∷ decimal x ∷ decimal d.place ∷ decimal d.message.sender ∷ decimal d.message.number ∷ bytes_word d.payload ∷ []) e
    (rw (
      number_gap me is.me,
      number_gap x is.view,
      number_gap d.place is.place,
      number_gap d.message.sender is.sender,
      number_gap d.message.number is.number,
      payload_gap d.payload,
    ) refl)
    ∙ ap (λ (o : Option (List ℕ)). flat_map reported_line (option_map_or (λ bytes. one_line (payload_tokens bytes)) o [])) (hex_again d.payload fits)
    ∙ alone (payload_tokens d.payload)

-- ---- replies

record_again : (r : Reply) → IsReply r → IsBytes (reply_bytes r) → record_by r.signer (encode_lower (reply_bytes r)) ≡ Some r
record_again r is fits = rw (some_again (reply_bytes r) (omega arith) fits, reply_is_read r is, itself r.signer) refl

pub reply_is_reported : ReplyIsReported
unfolding reported_text
reply_is_reported r line is fits e =
    let word : List ℕ = encode_lower (reply_bytes r) in
    said line (codes "reply") (decimal r.signer ∷ word ∷ []) e
    (rw (number_gap r.signer (small r.signer is.signer), hex_gap (reply_bytes r)) refl)
    ∙ ap (λ (o : Option ℕ). flat_map reported_line (option_map_or (λ p. reply_said p word) o [])) (process_again r.signer is.signer)
    ∙ ap (λ (o : Option Reply). flat_map reported_line (reply_or word o)) (record_again r is fits)
    ∙ alone (reply_tokens r)

-- ---- answers

pub accepted_is_reported : AcceptedIsReported
accepted_is_reported x c line is e =
    said line (codes "answer") (decimal x ∷ decimal c.place ∷ decimal c.position ∷ encode_lower c.answer ∷ []) e
    (rw (number_gap x is.view, number_gap c.place is.place, number_gap c.position is.position, hex_gap c.answer) refl)
    ∙ ap (λ (o : Option (List ℕ)). flat_map reported_line (option_map_or (λ answer. one_line (said_tokens answer)) o []))
    (some_again c.answer is.some is.bytes)
    ∙ alone (said_tokens c.answer)

-- ---- states

given_again : (r : StateRecord) → IsStateRecord r → IsBytes (state_bytes r) → state_by r.signer (encode_lower (state_bytes r)) ≡ Some r
given_again r is fits = rw (some_again (state_bytes r) (omega arith) fits, state_is_read r is, itself r.signer) refl

pub state_is_reported : StateIsReported
unfolding given_text
state_is_reported r s line is stored spelled fits e =
    let word : List ℕ = encode_lower (state_bytes r) in
    said line (codes "state") (decimal r.signer ∷ word ∷ []) e
    (rw (number_gap r.signer (small r.signer is.signer), hex_gap (state_bytes r)) refl)
    ∙ ap (λ (o : Option ℕ). flat_map reported_line (option_map_or (λ p. state_said p word) o [])) (process_again r.signer is.signer)
    ∙ ap (λ (o : Option StateRecord). flat_map reported_line (state_or word o)) (given_again r is fits)
    ∙ ap (λ (read : Result Store (Unit {0})). flat_map reported_line (option_map_or (store_lines r.view) (result_ok read) []))
    (ap store_of spelled ∙ store_is_read s stored)
