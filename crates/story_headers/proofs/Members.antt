-- Members that are named one after another.
use Rattle.std.proofs.Common.{◌≡◌, ℕ, suc, ◌<◌, ◌==◌, true, false, true≢false, List, [], ◌∷◌, ◌++◌, length, Option, Some, None, Result, Ok, Err, refl, sym, ap, ◌∙◌, arith}
use Rattle.std.specs.Option.{ok_or}
use Rattle.byte_defs.specs.Fields.{◌>>=◌}
use Rattle.byte_defs.specs.Reads.{Fails}
use Rattle.byte_defs.proofs.Fields.{ok_is}
use Rattle.text_defs.specs.Words.{process_of}
use Rattle.story_defs.specs.declared.Expected.{Expected}
use Rattle.story_defs.specs.declared.Expected.TheVariants.{Genesis}
use Rattle.story_defs.specs.Words.{Words, process_at}
use Rattle.story_defs.specs.Lines.{members_behind}
use Rattle.story_lines.specs.declared.faults.LineFault.{LineFault}
use Rattle.story_lines.specs.declared.faults.LineFault.TheVariants as faults
use Rattle.story_lines.specs.Faults.{expected_of}

abbrev Answer : Type 0
Answer = Result (List ℕ) Expected

-- with the process that a word names
abbrev by_word : List ℕ → Words → Option ℕ → Answer
by_word before words o = elim o [ None ↦ Err Genesis | Some p ↦ members_behind (before ++ p ∷ []) words ]

step : (before word : List ℕ) (words : Words) → members_behind before (word ∷ words) ≡ by_word before words (process_of word)
unfolding members_behind
step before word words = refl

abbrev read_by : Words → Option ℕ → Result (ℕ × Words) Expected
read_by words o = ok_or o Genesis >>= λ p. Ok (p, words)

-- what the reading of a process is
said : (words : Words) (o : Option ℕ) (x : ℕ × Words) → read_by words o ≡ Ok x → (o ≡ Some x.0) × (words ≡ x.1)
said words None x e = absurd cc
said words (Some p) x e =
    let made : ℕ × Words = (p, words) in
    let some : ℕ → Option ℕ = λ n. Some n in
    let same = ok_is made x e in
    (ap (λ (y : ℕ × Words). some y.0) same, ap (λ (y : ℕ × Words). y.1) same)

not_said : (before : List ℕ) (words : Words) (o : Option ℕ) (x : Expected) → read_by words o ≡ Err x → by_word before words o ≡ Err x
not_said before words None x e = cc
not_said before words (Some p) x e = absurd cc

pub goes_on : (before : List ℕ) (words : Words) (p : ℕ) (rest : Words) (all : Answer) → members_behind before words ≡ all
    → process_at Genesis words ≡ Ok (p, rest) → members_behind (before ++ p ∷ []) rest ≡ all
goes_on before [] p rest all so_far e = absurd cc
goes_on before (word ∷ words) p rest all so_far e =
    let x : ℕ × Words = (p, rest) in
    let k = said words (process_of word) x e in
    ap (members_behind (before ++ p ∷ [])) (sym k.1) ∙ sym (ap (by_word before words) k.0) ∙ sym (step before word words) ∙ so_far

pub fails : (before : List ℕ) (words : Words) (all : Answer) → members_behind before words ≡ all → (length words == 0) ≡ false
    → (e : LineFault) → Fails expected_of e (process_at Genesis words) → Fails expected_of e all
fails before words all so_far some faults.NoMemory bad = tt
fails before [] all so_far some (faults.Expected x) bad = absurd (true≢false some)
fails before (word ∷ words) all so_far some (faults.Expected x) bad = sym so_far ∙ step before word words ∙ not_said before words
    (process_of word) x bad

pub shrinks : (words : Words) (p : ℕ) (rest : Words) → process_at Genesis words ≡ Ok (p, rest) → length rest < length words
shrinks [] p rest e = absurd cc
shrinks (word ∷ words) p rest e =
    let x : ℕ × Words = (p, rest) in
    omega (arith, ap length (said words (process_of word) x e).1)

pub is_done : (before : List ℕ) (words : Words) (all : Answer) → members_behind before words ≡ all → (length words == 0) ≡ true
    → all ≡ Ok before
unfolding members_behind
is_done before [] all so_far e = sym so_far
is_done before (word ∷ words) all so_far e = absurd (grind (arith, e))
