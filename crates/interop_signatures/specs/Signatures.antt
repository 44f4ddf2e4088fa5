-- Questions on signatures: how they are spelled, and what is answered.
use Rattle.std.specs.Prelude.{◌≡◌, ℕ, if◌then◌else◌, List, [], ◌∷◌, codes}
use Rattle.hex.specs.Hex.{IsBytes}
use Rattle.text_defs.specs.Words.{bytes_word}
use Rattle.interop_signatures.specs.declared.verifying.Scheme.{Scheme}
use Rattle.interop_signatures.specs.Schemes.{is_valid, scheme_word}
use Rattle.interop_signatures.specs.Trees.{IsTreeSigning, TreeSigning, tree_signed, tree_words}
use Rattle.interop_signatures.specs.Levels.{IsMade, IsSpelled, LevelSigning, level_signed, level_words}

pub data Question : Type 0 where
  -- whether this is a signature of the scheme under the key on the body
  Verify : (scheme : Scheme) (key body sig : List ℕ) → Question
  -- the tree's public key, and the leaf's signature on the body
  SignByTree : TreeSigning → Question
  -- the public key of trees in levels, and their signature of this number on the body
  SignByLevels : LevelSigning → Question

abbrev pub IsQuestion : Question → Type 0
IsQuestion (Verify scheme key body sig) = IsBytes key × IsBytes body × IsBytes sig
IsQuestion (SignByTree s) = IsTreeSigning s
IsQuestion (SignByLevels s) = IsSpelled s × IsMade s

-- `verify SCHEME KEY BODY SIG`, `lms H W I SEED Q BODY` and `hss L H W I SEED C BODY`
abbrev pub spelled : Question → List (List ℕ)
spelled (Verify scheme key body sig) = codes "verify" ∷ scheme_word scheme ∷ bytes_word key ∷ bytes_word body ∷ bytes_word sig ∷ []
spelled (SignByTree s) = codes "lms" ∷ tree_words s
spelled (SignByLevels s) = codes "hss" ∷ level_words s

-- `true` or `false`, and `KEY SIG`
abbrev pub answer_to : Question → List ℕ
answer_to (Verify scheme key body sig) = if is_valid scheme key body sig then codes "true" else codes "false"
answer_to (SignByTree s) = tree_signed s
answer_to (SignByLevels s) = level_signed s

-- the words are those of a question on signatures, and this is what is answered
pub record Answers (words : List (List ℕ)) (reported : List ℕ) : Type 0 where
  pub question : Question
  pub fits : IsQuestion question
  pub asked : words ≡ spelled question
  pub reported_is : reported ≡ answer_to question
