-- A plain key by how many words it has.
use Rattle.std.proofs.Common.{◌≡◌, ℕ, ◌==◌, true, false, true≢false, List, [], ◌∷◌, ◌++◌, length, Result, Ok, Err, refl, sym, ap, ◌∙◌, arith}
use Rattle.byte_defs.specs.Reads.{Fails}
use Rattle.byte_defs.proofs.Fields.{ok_is}
use Rattle.story_defs.specs.declared.Expected.{Expected}
use Rattle.story_defs.specs.declared.Expected.TheVariants.{Process}
use Rattle.story_defs.specs.Words.{Words, next_at}
use Rattle.story_defs.specs.Lines.{plain_at, short_at, whole_at}
use Rattle.story_lines.specs.declared.faults.LineFault.{LineFault}
use Rattle.story_lines.specs.declared.faults.LineFault.TheVariants as faults
use Rattle.story_lines.specs.Faults.{expected_of}

rest_is : (words : Words) (x : List ℕ × Words) → next_at Process words ≡ Ok x → words ≡ x.0 ∷ x.1
rest_is [] x e = absurd cc
rest_is (word ∷ words) x e =
    let made : List ℕ × Words = (word, words) in
    ap (λ (y : List ℕ × Words). y.0 ∷ y.1) (ok_is made x e)

no_word : (p : ℕ) (words : Words) (x : Expected) → next_at Process words ≡ Err x → plain_at p words ≡ Err x
unfolding plain_at
no_word p [] x e = cc
no_word p (word ∷ words) x e = absurd cc

pub fails : (p : ℕ) (words : Words) (e : LineFault) → Fails expected_of e (next_at Process words) → Fails expected_of e (plain_at p words)
fails p words faults.NoMemory bad = tt
fails p words (faults.Expected x) bad = no_word p words x bad

one_word : (p : ℕ) (word : List ℕ) (words : Words) → (length words == 0) ≡ true → plain_at p (word ∷ words) ≡ short_at p (word ∷ words)
unfolding plain_at
one_word p word [] e = refl
one_word p word (next ∷ words) e = absurd (grind (arith, e))

several : (p : ℕ) (word : List ℕ) (words : Words) → (length words == 0) ≡ false → plain_at p (word ∷ words) ≡ whole_at (word ∷ words)
unfolding plain_at
several p word [] e = absurd (true≢false e)
several p word (next ∷ words) e = refl

module _ (p : ℕ) (words : Words) (word : List ℕ) (rest : Words) (read : next_at Process words ≡ Ok (word, rest)) where
  parts : words ≡ word ∷ rest
  parts = let x : List ℕ × Words = (word, rest) in rest_is words x read

  pub is_short : (length rest == 0) ≡ true → short_at p words ≡ plain_at p words
  is_short e = ap (short_at p) parts ∙ sym (ap (plain_at p) parts ∙ one_word p word rest e)

  pub is_whole : (length rest == 0) ≡ false → whole_at words ≡ plain_at p words
  is_whole e = ap whole_at parts ∙ sym (ap (plain_at p) parts ∙ several p word rest e)
