-- A list that takes claims one by one.
use Rattle.std.proofs.Common.{◌≡◌, List, [], ◌∷◌, ◌++◌, Bool, false, refl, ap, ◌∙◌}
use Rattle.message_defs.specs.Packing.{Signed}
use Rattle.sent_claims.specs.Lists.{added, extended}

pub extended-append : (once : Bool) (cs ds es : List Signed) → extended once cs (ds ++ es) ≡ extended once (extended once cs ds) es
extended-append once cs [] es = refl
extended-append once cs (d ∷ ds) es = extended-append once (added once cs d) ds es

-- where each is put, they stand behind the others
pub extended-all : (cs ds : List Signed) → extended false cs ds ≡ cs ++ ds
extended-all cs [] = append-nil' cs
  where
    append-nil' : (cs : List Signed) → cs ≡ cs ++ []
    append-nil' [] = refl
    append-nil' (c ∷ cs) = ap (λ xs. c ∷ xs) (append-nil' cs)
extended-all cs (d ∷ ds) = extended-all (cs ++ d ∷ []) ds ∙ shifted cs
  where
    shifted : (cs : List Signed) → (cs ++ d ∷ []) ++ ds ≡ cs ++ (d ∷ ds)
    shifted [] = refl
    shifted (c ∷ cs) = ap (λ xs. c ∷ xs) (shifted cs)
