-- Lines of tokens, as they are written piece by piece.
use Rattle.std.proofs.Common.{◌≡◌, ℕ, List, [], ◌∷◌, ◌++◌, map, Result, Ok, Err, refl, sym, ap, ◌∙◌, append_assoc, append-nil}
use Rattle.std.specs.Prelude.{OnOk}
use Rattle.std.specs.List.{flat_map, join_with_byte}
use Rattle.std.proofs.lemmas.Grind.{flat_map-append}
use Rattle.text_defs.specs.Words.{space}
use Rattle.message_defs.specs.Statements.{Batch}
use Rattle.story_defs.specs.Texts.{Token, Word, number, message_tokens, shown, token_line}
use Rattle.story_writing.specs.Tokens.{behind}

joined : (word : List ℕ) (ts : List Token) → join_with_byte space (word ∷ map shown ts) ≡ word ++ behind ts
joined word [] = sym (append-nil word)
joined word (t ∷ ts) = ap (λ (more : List ℕ). word ++ 32 ∷ more) (joined (shown t) ts)

pub line_is : (word : List ℕ) (ts : List Token) → token_line (Word word ∷ ts) ≡ word ++ (behind ts ++ 10 ∷ [])
line_is word ts = ap (λ (line : List ℕ). line ++ 10 ∷ []) (joined word ts) ∙ append_assoc word (behind ts) (10 ∷ [])

pub behind_joined : (ts us : List Token) → behind (ts ++ us) ≡ behind ts ++ behind us
behind_joined ts us = flat_map-append (λ t. space ∷ shown t) ts us

-- a word, tokens and the end of a line behind what was there
pub written : (out word : List ℕ) (ts : List Token) → ((out ++ word) ++ behind ts) ++ 10 ∷ [] ≡ out ++ token_line (Word word ∷ ts)
written out word ts =
    append_assoc (out ++ word) (behind ts) (10 ∷ []) ∙ append_assoc out word (behind ts ++ 10 ∷ []) ∙ ap (λ (line : List ℕ). out ++ line)
    (sym (line_is word ts))

-- in two parts
pub written_twice : (out word : List ℕ) (ts us : List Token)
    → (((out ++ word) ++ behind ts) ++ behind us) ++ 10 ∷ [] ≡ out ++ token_line (Word word ∷ (ts ++ us))
written_twice out word ts us =
    ap (λ (line : List ℕ). line ++ 10 ∷ [])
    (append_assoc (out ++ word) (behind ts) (behind us) ∙ ap (λ (b : List ℕ). (out ++ word) ++ b) (sym (behind_joined ts us)))
    ∙ written out word (ts ++ us)

-- in three, the last with the end of the line
pub written_thrice : (out word : List ℕ) (ts us vs : List Token)
    → (((out ++ word) ++ behind ts) ++ behind us) ++ (behind vs ++ 10 ∷ []) ≡ out ++ token_line (Word word ∷ (ts ++ (us ++ vs)))
written_thrice out word ts us vs =
    sym (append_assoc (((out ++ word) ++ behind ts) ++ behind us) (behind vs) (10 ∷ []))
    ∙ ap (λ (line : List ℕ). line ++ 10 ∷ [])
    (append_assoc ((out ++ word) ++ behind ts) (behind us) (behind vs) ∙ ap (λ (b : List ℕ). ((out ++ word) ++ behind ts) ++ b)
    (sym (behind_joined us vs)))
    ∙ written_twice out word ts (us ++ vs)

-- what is written where the last piece is
pub all_written : {E : Type 0} (r : Result (Unit {0}) E) (new before piece wanted : List ℕ) → OnOk r (new ≡ before ++ piece)
    → before ++ piece ≡ wanted → OnOk r (new ≡ wanted)
all_written (Ok u) new before piece wanted h e = h ∙ e
all_written (Err x) new before piece wanted h e = tt

-- ---- batches

behind_each : (b : Batch) → behind (flat_map message_tokens b) ≡ flat_map (λ m. behind (message_tokens m)) b
behind_each [] = refl
behind_each (m ∷ b) = behind_joined (message_tokens m) (flat_map message_tokens b) ∙ ap (λ (t : List ℕ). behind (message_tokens m) ++ t)
    (behind_each b)

-- a place and the messages of its batch
pub placed : (out : List ℕ) (place : ℕ) (b : Batch)
    → (out ++ behind (number place ∷ [])) ++ flat_map (λ m. behind (message_tokens m)) b ≡ out
    ++ behind (number place ∷ flat_map message_tokens b)
placed out place b =
    append_assoc out (behind (number place ∷ [])) (flat_map (λ m. behind (message_tokens m)) b)
    ∙ ap (λ (t : List ℕ). out ++ (behind (number place ∷ []) ++ t)) (sym (behind_each b))
    ∙ ap (λ (t : List ℕ). out ++ t) (sym (behind_joined (number place ∷ []) (flat_map message_tokens b)))
