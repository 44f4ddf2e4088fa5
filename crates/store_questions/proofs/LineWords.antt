-- The words of a line with a reply.
use Rattle.std.proofs.Common.{◌≡◌, ℕ, ◌<◌, ◌≤◌, ◌==◌, Bool, true, false, List, [], ◌∷◌, length, Option, None, Some, refl, sym, ap, ◌∙◌}
use Rattle.std.specs.Prelude.{◌&&◌, codes, if◌then◌else◌, is_some, option_map}
use Rattle.std.specs.Result.{result_ok}
use Rattle.std.proofs.lemmas.Bool.{le-ltb, lt-ltb}
use Rattle.byte_defs.specs.Choices.{and_then, is_some_and}
use Rattle.byte_defs.specs.Equality.{same_bytes}
use Rattle.text_defs.specs.Words.{process_of, words_of}
use Rattle.signature_defs.specs.Schemes.{Scheme}
use Rattle.group_defs.specs.Views.{View}
use Rattle.kit_defs.specs.Kits.{Kit, roster_of}
use Rattle.kit_defs.specs.KitReading.{most_line_bytes}
use Rattle.store_defs.specs.Records.{Reply, reply_of}
use Rattle.store_defs.specs.Words.{some_bytes_of}
use Rattle.store_defs.specs.Asking.{named_key, record_by, reply_by}
use Rattle.store_question_defs.specs.Lines.{is_reply, key_said, named_view, said_words, says_view}
use Rattle.store_questions.specs.Said.{is_asked, is_record, record_behind, replies_by}

-- a reply to the payload, where there is one
abbrev to : List ℕ → Option Reply → Option Reply
to payload o = and_then o (λ r. if same_bytes r.payload payload then Some r else None)

by_signer : (payload : List ℕ) (r : Reply) (own same : Bool)
    → is_some (and_then (let o : Option Reply = if own then Some r else None in o) (λ r. let o : Option Reply = if same then Some r else None in o)) ≡ (own && same)
by_signer payload r true true = refl
by_signer payload r true false = refl
by_signer payload r false same = refl

by_record : (payload : List ℕ) (p : ℕ) (o : Option Reply)
    → is_some (to payload (and_then o (λ r. if r.signer == p then Some r else None))) ≡ is_some_and o (is_asked payload p)
by_record payload p None = refl
by_record payload p (Some r) = of (r.signer == p)
  where
    of : (b : Bool) → is_some (to payload (let o : Option Reply = if b then Some r else None in o)) ≡ (b && same_bytes r.payload payload)
    of true = by_signer payload r true (same_bytes r.payload payload)
    of false = refl

by_bytes : (payload : List ℕ) (p : ℕ) (o : Option (List ℕ))
    → is_some (to payload (and_then o (λ bytes. and_then (result_ok (reply_of bytes)) (λ r. if r.signer == p then Some r else None))))
    ≡ is_some_and o (is_record payload p)
by_bytes payload p None = refl
by_bytes payload p (Some bytes) = by_record payload p (result_ok (reply_of bytes))

by_process : (payload word : List ℕ) (o : Option ℕ)
    → is_some (to payload (and_then o (λ p. record_by p word))) ≡ is_some_and o (λ p. is_some_and (some_bytes_of word) (is_record payload p))
by_process payload word None = refl
by_process payload word (Some p) = by_bytes payload p (some_bytes_of word)

-- by the first of its words
by_words : (payload : List ℕ) (words : List (List ℕ)) → is_some (to payload (reply_by words)) ≡ replies_by payload words
by_words payload [] = refl
by_words payload (word ∷ []) = of (same_bytes word (codes "reply"))
  where
    of : (b : Bool) → false ≡ (if b then record_behind payload [] else false)
    of true = refl
    of false = refl
by_words payload (word ∷ process ∷ []) = of (same_bytes word (codes "reply"))
  where
    of : (b : Bool) → false ≡ (if b then record_behind payload (process ∷ []) else false)
    of true = refl
    of false = refl
by_words payload (word ∷ process ∷ bytes ∷ []) = of (same_bytes word (codes "reply"))
  where
    of : (b : Bool) → is_some (to payload (if b then and_then (process_of process) (λ p. record_by p bytes) else None))
        ≡ (if b then record_behind payload (process ∷ bytes ∷ []) else false)
    of true = by_process payload bytes (process_of process)
    of false = refl
by_words payload (word ∷ process ∷ bytes ∷ more ∷ words) = of (same_bytes word (codes "reply"))
  where
    of : (b : Bool) → false ≡ (if b then record_behind payload (process ∷ bytes ∷ more ∷ words) else false)
    of true = refl
    of false = refl

-- ---- lines that are too long, and others

abbrev Words : Type 0
Words = List (List ℕ)

long_words : (line : List ℕ) → most_line_bytes < length line → said_words line ≡ []
long_words line long = ap (λ (b : Bool). let ws : Words = if b then [] else words_of line in ws) (lt-ltb most_line_bytes (length line) long)

short_words : (line : List ℕ) → length line ≤ most_line_bytes → said_words line ≡ words_of line
short_words line short = ap (λ (b : Bool). let ws : Words = if b then [] else words_of line in ws) (le-ltb most_line_bytes (length line) short)

pub long_key : (kit : Kit) (line : List ℕ) → most_line_bytes < length line → None ≡ option_map (λ (k : ℕ × List ℕ). k.0) (key_said kit line)
long_key kit line long =
    ap (λ (ws : Words). option_map (λ (k : ℕ × List ℕ). k.0) (named_key kit.scheme (roster_of kit.keys) [] ws)) (sym (long_words line long))

pub short_key : (kit : Kit) (line : List ℕ) (found : Option ℕ) (scheme : Scheme) (roster : List (ℕ × List ℕ)) → length line ≤ most_line_bytes
    → scheme ≡ kit.scheme → roster ≡ kit.keys
    → found ≡ option_map (λ (k : ℕ × List ℕ). k.0) (named_key scheme (roster_of roster) [] (words_of line))
    → found ≡ option_map (λ (k : ℕ × List ℕ). k.0) (key_said kit line)
short_key kit line found scheme roster short s r is =
    is ∙ (λ i. option_map (λ (k : ℕ × List ℕ). k.0) (named_key (s i) (roster_of (r i)) [] (sym (short_words line short) i)))

pub long_view : (line : List ℕ) → most_line_bytes < length line → false ≡ says_view line
long_view line long = ap (λ (ws : Words). is_some (named_view ws)) (sym (long_words line long))

pub short_view : (line : List ℕ) (o : Option View) (b : Bool) → length line ≤ most_line_bytes → o ≡ named_view (words_of line) → b ≡ is_some o
    → b ≡ says_view line
short_view line o b short is says = says ∙ ap is_some is ∙ ap (λ (ws : Words). is_some (named_view ws)) (sym (short_words line short))

pub long_reply : (payload line : List ℕ) → most_line_bytes < length line → false ≡ is_reply payload line
long_reply payload line long = ap (λ (ws : Words). is_some (to payload (reply_by ws))) (sym (long_words line long))

pub short_reply : (payload line : List ℕ) (b : Bool) → length line ≤ most_line_bytes → b ≡ replies_by payload (words_of line)
    → b ≡ is_reply payload line
short_reply payload line b short is =
    is ∙ sym (by_words payload (words_of line)) ∙ ap (λ (ws : Words). is_some (to payload (reply_by ws))) (sym (short_words line short))
