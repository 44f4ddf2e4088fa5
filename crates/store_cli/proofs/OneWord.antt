-- Words that are one.
use Rattle.std.proofs.Common.{◌≡◌, ℕ, ◌<◌, ◌≤◌, Bool, true, nat_eq, List, [], ◌∷◌, map, length, get_or, String, refl, sym, ap, ◌∙◌, arith}
use Rattle.std.specs.Prelude.{string_bytes}
use Rattle.std.specs.declared.alloc.Global.{Global}
use Rattle.std.proofs.lemmas.Slice.Eq.{bytes_eq-Decides}
use lib.Pointwise.{pointwise}

one : (words : List (String Global)) (d : String Global) → 1 ≤ length words → length words < 2
    → map string_bytes words ≡ string_bytes (get_or words 0 d) ∷ []
one [] d least most = absurd (omega (arith, least))
one (word ∷ []) d least most = refl
one (word ∷ next ∷ words) d least most = absurd (omega (arith, most))

-- a list of one word, which is this one where the comparison of its bytes says so
pub is_word : (words : List (String Global)) (d w : String Global) (read b bytes : List ℕ) (r : Bool) → 1 ≤ length words → length words < 2
    → w ≡ get_or words 0 d → read ≡ string_bytes w → r ≡ pointwise nat_eq read b → r ≡ true → b ≡ bytes
    → map string_bytes words ≡ bytes ∷ []
is_word words d w read b bytes r least most is reads e passes same =
    let equal : read ≡ b = (bytes_eq-Decides read b).0 (sym e ∙ passes) in
    one words d least most ∙ ap (λ (x : String Global). string_bytes x ∷ []) (sym is) ∙ ap (λ (x : List ℕ). x ∷ [])
    (sym reads ∙ equal ∙ same)

-- words of a filter ask for nothing else
pub not_two : {P : Type 0} (words : List (List ℕ)) (word first second : List ℕ) → words ≡ word ∷ [] → words ≡ first ∷ second ∷ [] → P
not_two words word first second one two =
    let same : 1 ≡ 2 = ap (λ (ws : List (List ℕ)). length ws) (sym one ∙ two) in
    absurd (omega (arith, same))
