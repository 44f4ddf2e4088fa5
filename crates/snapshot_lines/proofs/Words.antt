-- The words of a snapshot's line, and the bytes that the second of them spells.
use Rattle.std.proofs.Common.{◌≡◌, ℕ, ◌*◌, ◌/◌, ◌==◌, Vec, Global, true, false, List, [], ◌∷◌, length, Option, Some, None, Result, Err, refl, sym, ap, subst, ◌∙◌, arith}
use Rattle.std.specs.Prelude.{IsErrOf}
use Rattle.std.specs.Result.{result_ok}
use Rattle.std.proofs.lemmas.Bool.{eqb-true}
use Rattle.hex.proofs.HexLemmas.{length-encode_with}
use Rattle.byte_defs.specs.Choices.{and_then}
use Rattle.text_defs.specs.Words.{Spells, bytes_of}
use Rattle.text_defs.proofs.Bytes.{bytes_found, bytes_spelled}
use Rattle.text_codec.specs.declared.hexadecimal.WordFault.{WordFault}
use Rattle.text_codec.specs.declared.hexadecimal.WordFault.TheVariants as words
use Rattle.resume_laws.specs.Said.{SnapSaid, said_by_words, snapshot_in}

pub ended : (hosted word arg : List ℕ) (rest : List (List ℕ)) → (length rest == 0) ≡ true
    → said_by_words hosted (word ∷ arg ∷ rest) ≡ said_by_words hosted (word ∷ arg ∷ [])
ended hosted word arg [] e = refl
ended hosted word arg (r ∷ rs) e = absurd (omega (arith, eqb-true (length (r ∷ rs)) 0 e))

pub longer : (hosted word arg : List ℕ) (rest : List (List ℕ)) → (length rest == 0) ≡ false → said_by_words hosted (word ∷ arg ∷ rest) ≡ None
unfolding said_by_words
longer hosted word arg [] e = absurd cc
longer hosted word arg (r ∷ rs) e = refl

-- ---- the bytes of a word

-- what the bytes say that a word spells
abbrev pub said_word : List ℕ → List ℕ → Option SnapSaid
said_word hosted word = and_then (bytes_of (length word / 2) word) (λ bytes. result_ok (snapshot_in hosted bytes))

-- no bytes are no snapshot
nothing : (hosted : List ℕ) → result_ok (snapshot_in hosted []) ≡ None
unfolding snapshot_in
nothing hosted = refl

pub word-read : (hosted word bytes : List ℕ) → Spells word bytes → result_ok (snapshot_in hosted bytes) ≡ said_word hosted word
unfolding bytes_of
word-read hosted word [] spells = nothing hosted ∙ ap (said_word hosted) (sym spells.1)
word-read hosted word (b ∷ bytes) spells =
    let long : length word ≡ 2 * length (b ∷ bytes) = ap length spells.1 ∙ length-encode_with _ (b ∷ bytes) in
    let half : length (b ∷ bytes) ≡ length word / 2 = omega (arith, long) in
    sym (ap (λ o. and_then o (λ bytes. result_ok (snapshot_in hosted bytes)))
    (ap (bytes_of (length word / 2)) spells.1 ∙ bytes_spelled (length word / 2) (b ∷ bytes) (half, spells.0)))

-- a word that spells none
spells-none : (hosted word : List ℕ) (o : Option (List ℕ)) → bytes_of (length word / 2) word ≡ o
    → ((bytes : List ℕ) → Spells word bytes → ⊥) → and_then o (λ bytes. result_ok (snapshot_in hosted bytes)) ≡ None
spells-none hosted word None is none = refl
spells-none hosted word (Some []) is none = nothing hosted
spells-none hosted word (Some (b ∷ bytes)) is none =
    let found = bytes_found (length word / 2) word (b ∷ bytes) is in
    absurd (none (b ∷ bytes) (found.1.1, found.0))

abbrev Read : Type 0
Read = Result (Vec ℕ Global) WordFault

abbrev no_bytes : WordFault → Read
no_bytes fault = Err fault

pub word-none : (hosted word : List ℕ) (r : Read) (fault : WordFault)
    → (IsErrOf r words.NoBytes → (bytes : List ℕ) → Spells word bytes → ⊥)
    → r ≡ Err fault → fault ≡ words.NoBytes → said_word hosted word ≡ None
word-none hosted word r fault none is no_such =
    let reported : r ≡ no_bytes words.NoBytes = is ∙ ap no_bytes no_such in
    spells-none hosted word _ refl (none (subst (λ x. IsErrOf x words.NoBytes) (sym reported) refl))
