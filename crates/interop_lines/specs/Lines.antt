-- What a line asks.
use Rattle.std.specs.Prelude.{◌≡◌, ◌⊎◌, ℕ, List, ◌∷◌, codes}
use Rattle.text_defs.specs.Words.{words_of}
use Rattle.interop_signatures.specs.Signatures as signatures
use Rattle.interop_frames.specs.Frames as frames
use Rattle.interop_files.specs.Files as files
use Rattle.interop_node.specs.Questions as nodes
use Rattle.interop_pool.specs.Questions as pools
use Rattle.interop_store.specs.Questions as stores
use Rattle.interop_runs.specs.Runs as runs
use Rattle.interop_runs.specs.Runs.{Runs}

-- the line's words are those of a question that is about the line alone, and this is what is answered
abbrev pub AnswersOnce : List ℕ → List ℕ → Type 0
AnswersOnce line reported =
    signatures.Answers (words_of line) reported ⊎ frames.Answers (words_of line) reported ⊎ files.Answers (words_of line) reported
    ⊎ nodes.Answers (words_of line) reported ⊎ pools.Answers (words_of line) reported ⊎ stores.Answers (words_of line) reported

-- the line's words are those of a question, one about the line alone or one about a run of the program, and this is what is answered, by what
-- a run may come to
abbrev pub Answers : Runs → List ℕ → List ℕ → Type 0
Answers comes_to line reported = AnswersOnce line reported ⊎ runs.Answers comes_to (words_of line) reported

-- No line has two answers that are about it alone, and one that asks for a run has none of these.
pub record OneAnswer : Type 0 where
  pub one : (line a b : List ℕ) → AnswersOnce line a → AnswersOnce line b → a ≡ b
  pub apart : (line reported : List ℕ) (rest : List (List ℕ)) → words_of line ≡ codes "run" ∷ rest → ¬ AnswersOnce line reported
