-- One more process in a set.
use Rattle.std.proofs.Common.{◌≡◌, ℕ, List, [], ◌∷◌, Bool, true, false, refl, ap, ◌∙◌}
use Rattle.std.specs.Prelude.{◌==◌, ◌||◌, nat_lt, if◌then◌else◌}
use Rattle.std.specs.List.{list_any}
use Rattle.std.proofs.lemmas.Bool.{eqb-true}
use Rattle.rp_base.specs.Pids.{put_once}

or-again : (a b : Bool) → (a || b) ≡ (a || (a || b))
or-again true b = refl
or-again false b = refl

pub or-swap : (a b c : Bool) → (a || (b || c)) ≡ (b || (a || c))
or-swap true true c = refl
or-swap true false c = refl
or-swap false b c = refl

-- one more in a set
pub has-put_once : (p q : ℕ) (qs : List ℕ) → list_any (λ r. r == q) (put_once p qs) ≡ ((p == q) || list_any (λ r. r == q) qs)
has-put_once p q [] = refl
has-put_once p q (r ∷ rs) = go (nat_lt r p) (r == p) refl (has-put_once p q rs)
  where
    go : (a b : Bool) → (r == p) ≡ b → list_any (λ r. r == q) (put_once p rs) ≡ ((p == q) || list_any (λ r. r == q) rs)
        → list_any (λ r. r == q) (if a then r ∷ put_once p rs else if b then r ∷ rs else p ∷ r ∷ rs)
        ≡ ((p == q) || ((r == q) || list_any (λ r. r == q) rs))
    go true b e rest = ap (λ t. (r == q) || t) rest ∙ or-swap (r == q) (p == q) (list_any (λ r. r == q) rs)
    go false true e rest = or-again (r == q) (list_any (λ r. r == q) rs) ∙ ap (λ n. (n == q) || ((r == q) || list_any (λ r. r == q) rs))
        (eqb-true r p e)
    go false false e rest = refl
