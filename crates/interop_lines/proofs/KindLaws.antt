-- What a line asks, by the kinds of questions.
use Rattle.std.proofs.Common.{◌≡◌, ◌==◌, ℕ, ◌<◌, List, [], ◌∷◌, length, ◌⊎◌, inl, inr, refl, sym, ap, ◌∙◌, subst, arith}
use Rattle.std.specs.Prelude.{codes, if◌then◌else◌}
use Rattle.text_defs.specs.Words.{words_of}
use Rattle.interop_signatures.specs.Signatures as signatures
use Rattle.interop_frames.specs.Frames as frames
use Rattle.interop_files.specs.Files as files
use Rattle.interop_node.specs.Questions as nodes
use Rattle.interop_pool.specs.Questions as pools
use Rattle.interop_store.specs.Questions as stores
use Rattle.interop_runs.specs.Runs as runs
use Rattle.interop_runs.specs.Runs.{Runs}
use Rattle.interop_lines.specs.Lines.{Answers, AnswersOnce}
use Rattle.interop_signatures.proofs.SignatureLaws as of_signatures
use Rattle.interop_frames.proofs.FrameLaws as of_frames
use Rattle.interop_files.proofs.FileLaws as of_files
use Rattle.interop_node.proofs.QuestionLaws as of_nodes
use Rattle.interop_pool.proofs.QuestionLaws as of_pools
use Rattle.interop_store.proofs.QuestionLaws as of_stores

-- a line that asks on no signature, no frame, no file, no journal and no datagram, on no pool and no conviction, and on no store
none_once : (line reported : List ℕ) (ws vs us ns ps ts : List (List ℕ)) → ws ≡ words_of line → vs ≡ words_of line → us ≡ words_of line
    → ns ≡ words_of line → ps ≡ words_of line → ts ≡ words_of line
    → (signatures.Answers ws reported → ⊥) → (frames.Answers vs reported → ⊥) → (files.Answers us reported → ⊥)
    → (nodes.Answers ns reported → ⊥) → (pools.Answers ps reported → ⊥) → (stores.Answers ts reported → ⊥)
    → AnswersOnce line reported → ⊥
none_once line reported ws vs us ns ps ts e f g k m n one two three four five six (inl a) =
    one (subst (λ w. signatures.Answers w reported) (sym e) a)
none_once line reported ws vs us ns ps ts e f g k m n one two three four five six (inr (inl a)) =
    two (subst (λ w. frames.Answers w reported) (sym f) a)
none_once line reported ws vs us ns ps ts e f g k m n one two three four five six (inr (inr (inl a))) =
    three (subst (λ w. files.Answers w reported) (sym g) a)
none_once line reported ws vs us ns ps ts e f g k m n one two three four five six (inr (inr (inr (inl a)))) =
    four (subst (λ w. nodes.Answers w reported) (sym k) a)
none_once line reported ws vs us ns ps ts e f g k m n one two three four five six (inr (inr (inr (inr (inl a))))) =
    five (subst (λ w. pools.Answers w reported) (sym m) a)
none_once line reported ws vs us ns ps ts e f g k m n one two three four five six (inr (inr (inr (inr (inr a))))) =
    six (subst (λ w. stores.Answers w reported) (sym n) a)

-- and for no run
pub none : (R : Runs) (line reported : List ℕ) (ws vs us ns ps ts rs : List (List ℕ)) → ws ≡ words_of line → vs ≡ words_of line
    → us ≡ words_of line → ns ≡ words_of line → ps ≡ words_of line → ts ≡ words_of line → rs ≡ words_of line
    → (signatures.Answers ws reported → ⊥) → (frames.Answers vs reported → ⊥) → (files.Answers us reported → ⊥)
    → (nodes.Answers ns reported → ⊥) → (pools.Answers ps reported → ⊥) → (stores.Answers ts reported → ⊥)
    → (runs.Answers R rs reported → ⊥) → Answers R line reported → ⊥
none R line reported ws vs us ns ps ts rs e f g k m n r one two three four five six seven (inl a) =
    none_once line reported ws vs us ns ps ts e f g k m n one two three four five six a
none R line reported ws vs us ns ps ts rs e f g k m n r one two three four five six seven (inr a) =
    seven (subst (λ w. runs.Answers R w reported) (sym r) a)

-- ---- a number for each kind of question

abbrev first_letter : List ℕ → ℕ
first_letter [] = 0
first_letter (letter ∷ word) = letter

abbrev second_letter : List ℕ → ℕ
second_letter [] = 0
second_letter (letter ∷ word) = first_letter word

-- what begins with `verify`, `lms` and `hss`; `frame` and `statement`; `kit` and `schedule`; `journal` and `datagram`; `pool` and
-- `convicted`; `apply`, `reply` and `state`
of_word : List ℕ → ℕ
of_word first =
    if first_letter first == 118 then 0
    else if first_letter first == 108 then 0
    else if first_letter first == 104 then 0
    else if first_letter first == 102 then 1
    else if first_letter first == 107 then 2
    else if first_letter first == 106 then 3
    else if first_letter first == 100 then 3
    else if first_letter first == 112 then 4
    else if first_letter first == 99 then 4
    else if first_letter first == 97 then 5
    else if first_letter first == 114 then 5
    else if second_letter first == 116 then (if length first == 5 then 5 else 1)
    else 2

number : List (List ℕ) → ℕ
number [] = 6
number (first ∷ words) = of_word first

asks_signature : (ws : List (List ℕ)) (x : List ℕ) → signatures.Answers ws x → number ws ≡ 0
unfolding number of_word
asks_signature ws x a = of a.question a.asked
  where
    of : (q : signatures.Question) → ws ≡ signatures.spelled q → number ws ≡ 0
    of (signatures.Verify scheme key body sig) is = ap number is
    of (signatures.SignByTree s) is = ap number is
    of (signatures.SignByLevels s) is = ap number is

asks_frame : (ws : List (List ℕ)) (x : List ℕ) → frames.Answers ws x → number ws ≡ 1
unfolding number of_word
asks_frame ws x a = of a.question a.asked
  where
    of : (q : frames.Question) → ws ≡ frames.spelled q → number ws ≡ 1
    of (frames.OfFrame bytes) is = ap number is
    of (frames.OfStatement bytes) is = ap number is

asks_file : (ws : List (List ℕ)) (x : List ℕ) → files.Answers ws x → number ws ≡ 2
unfolding number of_word
asks_file ws x a = of a.question a.asked
  where
    of : (q : files.Question) → ws ≡ files.spelled q → number ws ≡ 2
    of (files.OfKit bytes) is = ap number is
    of (files.OfSchedule bytes) is = ap number is

asks_node : (ws : List (List ℕ)) (x : List ℕ) → nodes.Answers ws x → number ws ≡ 3
unfolding number of_word
asks_node ws x a = of a.question a.asked
  where
    of : (q : nodes.Question) → ws ≡ nodes.spelled q → number ws ≡ 3
    of (nodes.OfJournal bytes) is = ap number is
    of (nodes.OfDatagram key bytes) is = ap number is

asks_pool : (ws : List (List ℕ)) (x : List ℕ) → pools.Answers ws x → number ws ≡ 4
unfolding number of_word
asks_pool ws x a = of a.question a.asked
  where
    of : (q : pools.Question) → ws ≡ pools.spelled q → number ws ≡ 4
    of (pools.OfPool view members counts frame) is = ap number is
    of (pools.OfConvicted frame) is = ap number is

asks_store : (ws : List (List ℕ)) (x : List ℕ) → stores.Answers ws x → number ws ≡ 5
unfolding number of_word
asks_store ws x a = of a.question a.fits a.asked
  where
    of : (q : stores.Question) → stores.IsQuestion q → ws ≡ stores.spelled q → number ws ≡ 5
    of (stores.OfApply []) fits is = absurd (omega (arith, fits.0))
    of (stores.OfApply (payload ∷ payloads)) fits is = ap number is
    of (stores.OfReply bytes) fits is = ap number is
    of (stores.OfState bytes) fits is = ap number is

-- ---- one answer

-- what answers has this number, or a later one
abbrev IsFrom : (List (List ℕ) → List ℕ → Type 0) → ℕ → Type 0
IsFrom P n = (ws : List (List ℕ)) (x : List ℕ) → P ws x → n < number ws

abbrev IsKind : (List (List ℕ) → List ℕ → Type 0) → ℕ → Type 0
IsKind P n = (ws : List (List ℕ)) (x : List ℕ) → P ws x → number ws ≡ n

abbrev HasOne : (List (List ℕ) → List ℕ → Type 0) → Type 0
HasOne P = (ws : List (List ℕ)) (x y : List ℕ) → P ws x → P ws y → x ≡ y

module _ (P Q : List (List ℕ) → List ℕ → Type 0) (n : ℕ) (is : IsKind P n) (later : IsFrom Q n) where
  -- where a kind and the later ones have one answer each, so have they together
  both_one : HasOne P → HasOne Q → HasOne (λ ws x. P ws x ⊎ Q ws x)
  both_one p q ws x y (inl a) (inl b) = p ws x y a b
  both_one p q ws x y (inr a) (inr b) = q ws x y a b
  both_one p q ws x y (inl a) (inr b) = absurd (omega (arith, is ws x a, later ws y b))
  both_one p q ws x y (inr a) (inl b) = absurd (omega (arith, is ws y b, later ws x a))

module _ (P Q : List (List ℕ) → List ℕ → Type 0) (n m : ℕ) (is : IsKind P m) (later : IsFrom Q m) (less : n < m) where
  both_later : IsFrom (λ ws x. P ws x ⊎ Q ws x) n
  both_later ws x (inl a) = omega (arith, is ws x a, less)
  both_later ws x (inr b) = omega (arith, later ws x b, less)

abbrev From4 : List (List ℕ) → List ℕ → Type 0
From4 ws x = pools.Answers ws x ⊎ stores.Answers ws x

abbrev From3 : List (List ℕ) → List ℕ → Type 0
From3 ws x = nodes.Answers ws x ⊎ From4 ws x

abbrev From2 : List (List ℕ) → List ℕ → Type 0
From2 ws x = files.Answers ws x ⊎ From3 ws x

abbrev From1 : List (List ℕ) → List ℕ → Type 0
From1 ws x = frames.Answers ws x ⊎ From2 ws x

last : IsFrom stores.Answers 4
last ws x a = omega (arith, asks_store ws x a)

later3 : IsFrom From4 3
later3 = both_later pools.Answers stores.Answers 3 4 asks_pool last (omega arith)

later2 : IsFrom From3 2
later2 = both_later nodes.Answers From4 2 3 asks_node later3 (omega arith)

later1 : IsFrom From2 1
later1 = both_later files.Answers From3 1 2 asks_file later2 (omega arith)

later0 : IsFrom From1 0
later0 = both_later frames.Answers From2 0 1 asks_frame later1 (omega arith)

one4 : HasOne From4
one4 = both_one pools.Answers stores.Answers 4 asks_pool last of_pools.one_answer of_stores.one_answer

one3 : HasOne From3
one3 = both_one nodes.Answers From4 3 asks_node later3 of_nodes.one_answer one4

one2 : HasOne From2
one2 = both_one files.Answers From3 2 asks_file later2 of_files.one_answer one3

one1 : HasOne From1
one1 = both_one frames.Answers From2 1 asks_frame later1 of_frames.one_answer one2

-- no line asks two questions of different kinds, and each has one answer
pub one_answer : (line a b : List ℕ) → AnswersOnce line a → AnswersOnce line b → a ≡ b
one_answer line a b = both_one signatures.Answers From1 0 asks_signature later0 of_signatures.one_answer one1 (words_of line) a b

-- ---- a run

abbrev letter : List (List ℕ) → ℕ
letter [] = 0
letter (word ∷ words) = first_letter word

abbrev next_letter : List (List ℕ) → ℕ
next_letter [] = 0
next_letter (word ∷ words) = second_letter word

-- words of a run are those of no other question: they begin with another letter, or go on with another one
module _ (ws rest : List (List ℕ)) (is : ws ≡ codes "run" ∷ rest) where
  other : (spelled : List (List ℕ)) (n : ℕ) → ws ≡ spelled → letter spelled ≡ n → 114 ≡ n
  other spelled n e begins = sym (ap letter is) ∙ ap letter e ∙ begins

  next_other : (spelled : List (List ℕ)) (n : ℕ) → ws ≡ spelled → next_letter spelled ≡ n → 117 ≡ n
  next_other spelled n e goes = sym (ap next_letter is) ∙ ap next_letter e ∙ goes

  no_signature : (q : signatures.Question) → ws ≡ signatures.spelled q → ⊥
  no_signature (signatures.Verify scheme key body sig) e =
      absurd (omega (arith, other (signatures.spelled (signatures.Verify scheme key body sig)) 118 e refl))
  no_signature (signatures.SignByTree s) e = absurd (omega (arith, other (signatures.spelled (signatures.SignByTree s)) 108 e refl))
  no_signature (signatures.SignByLevels s) e = absurd (omega (arith, other (signatures.spelled (signatures.SignByLevels s)) 104 e refl))

  no_frame : (q : frames.Question) → ws ≡ frames.spelled q → ⊥
  no_frame (frames.OfFrame bytes) e = absurd (omega (arith, other (frames.spelled (frames.OfFrame bytes)) 102 e refl))
  no_frame (frames.OfStatement bytes) e = absurd (omega (arith, other (frames.spelled (frames.OfStatement bytes)) 115 e refl))

  no_file : (q : files.Question) → ws ≡ files.spelled q → ⊥
  no_file (files.OfKit bytes) e = absurd (omega (arith, other (files.spelled (files.OfKit bytes)) 107 e refl))
  no_file (files.OfSchedule bytes) e = absurd (omega (arith, other (files.spelled (files.OfSchedule bytes)) 115 e refl))

  no_node : (q : nodes.Question) → ws ≡ nodes.spelled q → ⊥
  no_node (nodes.OfJournal bytes) e = absurd (omega (arith, other (nodes.spelled (nodes.OfJournal bytes)) 106 e refl))
  no_node (nodes.OfDatagram key bytes) e = absurd (omega (arith, other (nodes.spelled (nodes.OfDatagram key bytes)) 100 e refl))

  no_pool : (q : pools.Question) → ws ≡ pools.spelled q → ⊥
  no_pool (pools.OfPool view members counts frame) e = absurd (omega (arith, other (pools.spelled (pools.OfPool view members counts frame)) 112 e refl))
  no_pool (pools.OfConvicted frame) e = absurd (omega (arith, other (pools.spelled (pools.OfConvicted frame)) 99 e refl))

  no_store : (q : stores.Question) → ws ≡ stores.spelled q → ⊥
  no_store (stores.OfApply payloads) e = absurd (omega (arith, other (stores.spelled (stores.OfApply payloads)) 97 e refl))
  no_store (stores.OfReply bytes) e = absurd (omega (arith, next_other (stores.spelled (stores.OfReply bytes)) 101 e refl))
  no_store (stores.OfState bytes) e = absurd (omega (arith, other (stores.spelled (stores.OfState bytes)) 115 e refl))

pub run_alone : (line reported : List ℕ) (rest : List (List ℕ)) → words_of line ≡ codes "run" ∷ rest → AnswersOnce line reported → ⊥
run_alone line reported rest is (inl a) = no_signature (words_of line) rest is a.question a.asked
run_alone line reported rest is (inr (inl a)) = no_frame (words_of line) rest is a.question a.asked
run_alone line reported rest is (inr (inr (inl a))) = no_file (words_of line) rest is a.question a.asked
run_alone line reported rest is (inr (inr (inr (inl a)))) = no_node (words_of line) rest is a.question a.asked
run_alone line reported rest is (inr (inr (inr (inr (inl a))))) = no_pool (words_of line) rest is a.question a.asked
run_alone line reported rest is (inr (inr (inr (inr (inr a))))) = no_store (words_of line) rest is a.question a.asked
