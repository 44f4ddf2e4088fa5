-- A statement by how many words it has.
use Rattle.std.proofs.Common.{◌≡◌, ℕ, ◌==◌, true, false, true≢false, List, [], ◌∷◌, length, Result, Ok, Err, refl, sym, ap, ◌∙◌, arith}
use Rattle.byte_defs.specs.Fields.{◌>>=◌}
use Rattle.byte_defs.specs.Reads.{Fails, Makes}
use Rattle.byte_defs.proofs.Fields.{ok_is}
use Rattle.story_defs.specs.declared.Expected.{Expected}
use Rattle.story_defs.specs.declared.Expected.TheVariants.{Lie}
use Rattle.story_defs.specs.Words.{Words, Step, next_at, payload_at}
use Rattle.story_defs.specs.Statements.{spelled_at, statement_at}
use Rattle.story_lines.specs.declared.faults.LineFault.{LineFault}
use Rattle.story_lines.specs.declared.faults.LineFault.TheVariants as faults
use Rattle.story_lines.specs.Faults.{expected_of}

-- the word and the words behind it are the words
rest_is : (words : Words) (x : List ℕ × Words) → next_at Lie words ≡ Ok x → words ≡ x.0 ∷ x.1
rest_is [] x e = absurd cc
rest_is (word ∷ words) x e =
    let made : List ℕ × Words = (word, words) in
    ap (λ (y : List ℕ × Words). y.0 ∷ y.1) (ok_is made x e)

no_word : (words : Words) (x : Expected) → next_at Lie words ≡ Err x → statement_at Lie words ≡ Err x
unfolding statement_at
no_word [] x e = cc
no_word (word ∷ words) x e = absurd cc

pub fails : (words : Words) (e : LineFault) → Fails expected_of e (next_at Lie words) → Fails expected_of e (statement_at Lie words)
fails words faults.NoMemory bad = tt
fails words (faults.Expected x) bad = no_word words x bad

one_word : (word : List ℕ) (words : Words) → (length words == 0) ≡ true
    → statement_at Lie (word ∷ words) ≡ (payload_at Lie 65535 (word ∷ words) >>= λ bytes. Ok bytes.0)
unfolding statement_at
one_word word [] e = refl
one_word word (next ∷ words) e = absurd (grind (arith, e))

several : (word : List ℕ) (words : Words) → (length words == 0) ≡ false → statement_at Lie (word ∷ words) ≡ spelled_at Lie (word ∷ words)
unfolding statement_at
several word [] e = absurd (true≢false e)
several word (next ∷ words) e = refl

module _ (words : Words) (word : List ℕ) (rest : Words) (read : next_at Lie words ≡ Ok (word, rest)) where
  parts : words ≡ word ∷ rest
  parts = let x : List ℕ × Words = (word, rest) in rest_is words x read

  pub is_bytes : (length rest == 0) ≡ true → (payload_at Lie 65535 words >>= λ bytes. Ok bytes.0) ≡ statement_at Lie words
  is_bytes e = ap (λ (ws : Words). payload_at Lie 65535 ws >>= λ bytes. Ok bytes.0) parts ∙ sym
      (ap (statement_at Lie) parts ∙ one_word word rest e)

  pub is_spelled : (length rest == 0) ≡ false → spelled_at Lie words ≡ statement_at Lie words
  is_spelled e = ap (spelled_at Lie) parts ∙ sym (ap (statement_at Lie) parts ∙ several word rest e)

-- the value that a step reads, without the words after it
pub value_alone : {X : Type 0} (view : X → List ℕ) (rest : Words) (r : Result X LineFault) (read : Step (List ℕ))
    → Makes expected_of (λ x. (view x, rest)) r read → Makes expected_of view r (read >>= λ x. Ok x.0)
value_alone view rest (Ok x) read made = ap (λ (t : Step (List ℕ)). t >>= λ y. Ok y.0) made
value_alone view rest (Err faults.NoMemory) read made = tt
value_alone view rest (Err (faults.Expected x)) read made = ap (λ (t : Step (List ℕ)). t >>= λ y. Ok y.0) made
