-- What a reader of hexadecimal answers, beside what a word says.
use Rattle.std.proofs.Common.{◌≡◌, ℕ, List, Vec, Global, Option, Some, None, Result, Ok, Err, refl, sym, ap, subst, ◌∙◌}
use Rattle.std.specs.Prelude.{IfOk, IsErrOf}
use Rattle.text_defs.specs.Words.{Spells}
use Rattle.text_codec.specs.declared.hexadecimal.WordFault.{WordFault}
use Rattle.text_codec.specs.declared.hexadecimal.WordFault.TheVariants as words
use Rattle.story_defs.specs.Words.{hex_word}
use Rattle.story_defs.proofs.HexWords.{hex_none}

abbrev Read : Type 0
Read = Result (Vec ℕ Global) WordFault

abbrev no_bytes : WordFault → Read
no_bytes fault = Err fault

pub not_read : (word : List ℕ) (r : Read) (fault : WordFault) → (IsErrOf r words.NoBytes → (bytes : List ℕ) → Spells word bytes → ⊥)
    → r ≡ Err fault → fault ≡ words.NoBytes → hex_word word ≡ None
not_read word r fault none is no_such =
    let reported : r ≡ no_bytes words.NoBytes = is ∙ ap no_bytes no_such in
    hex_none word (none (subst (λ (x : Read). IsErrOf x words.NoBytes) (sym reported) refl))
