-- The views that an image's process left, one after the other.
use Rattle.std.proofs.Common.{◌≡◌, ℕ, suc, ◌+◌, List, [], ◌∷◌, ◌++◌, length, map, refl, ap, subst, arith, inl, inr}
use Rattle.std.specs.Prelude.{slice_index_or, sum, All}
use Rattle.std.specs.List.{sum_by, range_with_len}
use Rattle.std.proofs.lemmas.List.Elements.{All-head, All-tail}
use Rattle.std.proofs.lemmas.List.Sums.{sum_by-cons}
use Rattle.message_defs.specs.Packing.{Signed}
use Rattle.group_defs.specs.Views.{View, next_view}
use Rattle.group_defs.specs.Process.{Delivered, Left, delivered_from}
use Rattle.image_defs.specs.Images.{LeftView, other_lists, lefts_from, view_behind}
use Rattle.pool_laws.proofs.Members.{mem-All, All-mem}
use Rattle.restored_present.specs.Left.{installed_from}
use Rattle.restored_present.specs.Members.{all_signed}

-- ---- numbers

pub number-behind : (v : View) (ls : List LeftView) → (view_behind v ls).number ≡ v.number + length ls
number-behind v [] = omega arith
number-behind v (l ∷ ls) = (let rest = number-behind (next_view v l.value.update) ls in omega (arith, rest))

pub how-many-left : (v : View) (ls : List LeftView) (ds : List (List Delivered)) → length (lefts_from v ls ds) ≡ length ls
how-many-left v [] ds = refl
how-many-left v (l ∷ ls) ds = ap suc (how-many-left (next_view v l.value.update) ls (other_lists ds))

pub numbers-are : (v : View) (ls : List LeftView) (ds : List (List Delivered))
    → map (λ (x : Left). x.view.number) (lefts_from v ls ds) ≡ range_with_len v.number (length ls)
numbers-are v [] ds = refl
numbers-are v (l ∷ ls) ds = ap (λ (ns : List ℕ). v.number ∷ ns) (numbers-are (next_view v l.value.update) ls (other_lists ds))

pub commits-are : (v : View) (ls : List LeftView) (ds : List (List Delivered))
    → map (λ (x : Left). all_signed x.commit) (lefts_from v ls ds) ≡ map (λ (l : LeftView). all_signed l.commit) ls
commits-are v [] ds = refl
commits-are v (l ∷ ls) ds = ap (λ (cs : List (List Signed)). all_signed l.commit ∷ cs) (commits-are (next_view v l.value.update) ls (other_lists ds))

-- the views that were installed
pub views-are : (v : View) (ls : List LeftView) (ds : List (List Delivered))
    → map (λ (x : Left). x.view) (lefts_from v ls ds) ++ view_behind v ls ∷ [] ≡ installed_from v ls
views-are v [] ds = refl
views-are v (l ∷ ls) ds = ap (λ (vs : List View). v ∷ vs) (views-are (next_view v l.value.update) ls (other_lists ds))

-- ---- what was delivered in each

pub lists-are : (v : View) (ls : List LeftView) (ds : List (List Delivered)) → length ds ≡ length ls + 1
    → map (λ (x : Left). x.delivered) (lefts_from v ls ds) ++ slice_index_or ds (length ls) [] ∷ [] ≡ ds
lists-are v [] [] many = absurd (omega (arith, many))
lists-are v [] (d ∷ []) many = refl
lists-are v [] (d ∷ e ∷ ds) many = absurd (omega (arith, many))
lists-are v (l ∷ ls) [] many = absurd (omega (arith, many))
lists-are v (l ∷ ls) (d ∷ ds) many = ap (λ (es : List (List Delivered)). d ∷ es) (lists-are (next_view v l.value.update) ls ds (omega (arith, many)))

-- the own messages of all views
pub own-are : (me : ℕ) (v : View) (ls : List LeftView) (ds : List (List Delivered)) → length ds ≡ length ls + 1
    → sum (map (λ (x : Left). delivered_from me x.delivered) (lefts_from v ls ds)) + delivered_from me (slice_index_or ds (length ls) [])
    ≡ sum_by (λ es. delivered_from me es) ds
own-are me v [] [] many = absurd (omega (arith, many))
own-are me v [] (d ∷ []) many = omega (arith, sum_by-cons (λ es. delivered_from me es) d [])
own-are me v [] (d ∷ e ∷ ds) many = absurd (omega (arith, many))
own-are me v (l ∷ ls) [] many = absurd (omega (arith, many))
own-are me v (l ∷ ls) (d ∷ ds) many =
    let rest = own-are me (next_view v l.value.update) ls ds (omega (arith, many)) in
    let one = sum_by-cons (λ es. delivered_from me es) d ds in
    let head = sum_by-cons (λ (n : ℕ). n) (delivered_from me d) (map (λ (x : Left). delivered_from me x.delivered) (lefts_from (next_view v l.value.update) ls ds)) in
    omega (arith, rest, one, head)

-- what holds of each list holds of what was delivered in each view that was left
pub all-left : (P : List Delivered → Type 0) (v : View) (ls : List LeftView) (ds : List (List Delivered)) → length ds ≡ length ls + 1
    → All P ds → All (λ (x : Left). P x.delivered) (lefts_from v ls ds) × P (slice_index_or ds (length ls) [])
all-left P v [] [] many all = absurd (omega (arith, many))
all-left P v [] (d ∷ ds) many all = ((λ k x far. absurd (omega (arith, far))), All-head P d ds all)
all-left P v (l ∷ ls) [] many all = absurd (omega (arith, many))
all-left P v (l ∷ ls) (d ∷ ds) many all =
    let rest = all-left P (next_view v l.value.update) ls ds (omega (arith, many)) (All-tail P d ds all) in (
      mem-All (λ (x : Left). P x.delivered) (lefts_from v (l ∷ ls) (d ∷ ds)) (λ x m. elim m [
        | inl is ↦ subst (λ (y : Left). P y.delivered) is (All-head P d ds all)
        | inr later ↦ All-mem (λ (y : Left). P y.delivered) (lefts_from (next_view v l.value.update) ls ds) x rest.0 later
      ]),
      rest.1,
    )
