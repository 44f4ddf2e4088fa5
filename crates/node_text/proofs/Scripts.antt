-- The words of a script's line, and the bytes of a payload.
use Rattle.std.proofs.Common.{arith, ◌≡◌, ℕ, Vec, Global, ◌==◌, Bool, true, false, List, [], ◌∷◌, length, Some, None, Result, Err, refl, sym, ap, subst, ◌∙◌}
use Rattle.std.specs.Prelude.{IsErrOf, IsUtf8, if◌then◌else◌}
use Rattle.std.specs.Str.{is_utf8}
use Rattle.std.proofs.lemmas.Bool.{eqb-true}
use Rattle.std.proofs.lemmas.Str.{IsUtf8-from_is_utf8, is_utf8-from_IsUtf8}
use Rattle.text_defs.specs.Words.{Spells}
use Rattle.text_codec.specs.declared.hexadecimal.WordFault.{WordFault}
use Rattle.text_codec.specs.declared.hexadecimal.WordFault.TheVariants as words
use Rattle.story_defs.specs.Words.{hex_word}
use Rattle.story_defs.proofs.HexWords.{hex_none, spelled_again}
use Rattle.node_defs.specs.Scripts.{Other, other_said, payload_of, said_by}

-- ---- words

pub ended : (word arg : List ℕ) (rest : List (List ℕ)) → (length rest == 0) ≡ true → said_by (word ∷ arg ∷ rest) ≡ said_by (word ∷ arg ∷ [])
ended word arg [] e = refl
ended word arg (r ∷ rs) e = absurd (omega (arith, eqb-true (length (r ∷ rs)) 0 e))

pub longer : (word arg : List ℕ) (rest : List (List ℕ)) → (length rest == 0) ≡ false → said_by (word ∷ arg ∷ rest) ≡ None
unfolding said_by
longer word arg [] e = absurd cc
longer word arg (r ∷ rs) e = refl

-- ---- text

chosen : (b : Bool) → b ≡ true → (if b then Some Other else None) ≡ Some Other
chosen true e = refl
chosen false e = absurd cc

passed : (b : Bool) → (b ≡ true → ⊥) → (if b then Some Other else None) ≡ None
passed true h = absurd (h refl)
passed false h = refl

pub text-said : (line : List ℕ) → IsUtf8 line → other_said line ≡ Some Other
text-said line t = chosen (is_utf8 line) (is_utf8-from_IsUtf8 line t)

pub no_text-said : (line : List ℕ) → (IsUtf8 line → ⊥) → other_said line ≡ None
no_text-said line h = passed (is_utf8 line) (λ e. h (IsUtf8-from_is_utf8 line e))

-- ---- payloads

-- a payload is a word in hexadecimal
payload-is : (word : List ℕ) → payload_of word ≡ hex_word word
unfolding payload_of hex_word
payload-is word = refl

pub payload-read : (word bytes : List ℕ) → Spells word bytes → payload_of word ≡ Some bytes
payload-read word bytes s = payload-is word ∙ spelled_again word bytes s

abbrev Read : Type 0
Read = Result (Vec ℕ Global) WordFault

abbrev no_bytes : WordFault → Read
no_bytes fault = Err fault

pub payload-none : (word : List ℕ) (r : Read) (fault : WordFault) → (IsErrOf r words.NoBytes → (bytes : List ℕ) → Spells word bytes → ⊥)
    → r ≡ Err fault → fault ≡ words.NoBytes → payload_of word ≡ None
payload-none word r fault none is no_such =
    let reported : r ≡ no_bytes words.NoBytes = is ∙ ap no_bytes no_such in
    payload-is word ∙ hex_none word (none (subst (λ (x : Read). IsErrOf x words.NoBytes) (sym reported) refl))
