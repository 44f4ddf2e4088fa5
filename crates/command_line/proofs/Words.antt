-- Lists of words of a known length.
use Rattle.std.proofs.Common.{◌≡◌, ◌<◌, ◌≤◌, List, [], ◌∷◌, length, map, None, refl, arith, Global}
use Rattle.std.specs.Prelude.{String, string_bytes}
use Rattle.command_line.specs.Reading.{other_of}

-- none has three or four
pub few_words : (words : List (String Global)) → 3 ≤ length words → length words < 5 → other_of (map string_bytes words) ≡ None
few_words [] some few = absurd (omega arith)
few_words (_ ∷ []) some few = absurd (omega arith)
few_words (_ ∷ _ ∷ []) some few = absurd (omega arith)
few_words (_ ∷ _ ∷ _ ∷ []) some few = refl
few_words (_ ∷ _ ∷ _ ∷ _ ∷ []) some few = refl
few_words (_ ∷ _ ∷ _ ∷ _ ∷ _ ∷ more) some few = absurd (omega arith)

-- none has more than five
pub many_words : (words : List (String Global)) → 6 ≤ length words → other_of (map string_bytes words) ≡ None
many_words [] some = absurd (omega arith)
many_words (_ ∷ []) some = absurd (omega arith)
many_words (_ ∷ _ ∷ []) some = absurd (omega arith)
many_words (_ ∷ _ ∷ _ ∷ []) some = absurd (omega arith)
many_words (_ ∷ _ ∷ _ ∷ _ ∷ []) some = absurd (omega arith)
many_words (_ ∷ _ ∷ _ ∷ _ ∷ _ ∷ []) some = absurd (omega arith)
many_words (_ ∷ _ ∷ _ ∷ _ ∷ _ ∷ _ ∷ more) some = refl
