-- What follows a view by an update is a view: 1 to 16 members, each once.
use Rattle.std.proofs.Common.{◌≡◌, ◌≢◌, ℕ, zero, suc, ◌+◌, ◌≤◌, ◌<◌, List, [], ◌∷◌, ◌++◌, length, get_or, None, Bool, true, false, refl, sym, ◌∙◌, arith, length-append}
use Rattle.std.specs.Prelude.{if◌then◌else◌, ◌||◌, ◌==◌, not, filter, All, AllPairs}
use Rattle.std.proofs.lemmas.Bool.{eqb-true, eq-eqb}
use Rattle.std.proofs.lemmas.List.Elements.{All-nil, All-cons}
use Rattle.std.proofs.lemmas.List.Kept.{AllPairs-filter}
use Rattle.std.proofs.lemmas.List.Quantifiers.{all_pairs_push}
use Rattle.std.proofs.lemmas.List.Sums.{length-filter, count_by-le-length}
use Rattle.message_defs.specs.Below.{first_that_holds, has}
use Rattle.message_defs.specs.Limits.{most_members}
use Rattle.message_defs.specs.Updates.{Update, Remove, Add, Renew}
use Rattle.group_defs.specs.Views.{View, ViewsSpent, NotMember, LastMember, AlreadyMember, GroupFull, is_member, next_fault, next_view, IsView}

-- who is not in a list differs from each that is
pub has_not : (xs : List ℕ) (p : ℕ) → has xs p ≡ false → All (λ x. x ≢ p) xs
has_not [] p e = All-nil (λ x. x ≢ p)
has_not (x ∷ xs) p e = go (x == p) refl e (has_not xs p)
  where
    go : (b : Bool) → (x == p) ≡ b → (b || has xs p) ≡ false → (has xs p ≡ false → All (λ x. x ≢ p) xs) → All (λ x. x ≢ p) (x ∷ xs)
    go true is e rest = absurd cc
    go false is e rest = All-cons (λ x. x ≢ p) x xs (λ same. absurd (let one : (x == p) ≡ true = eq-eqb x p same in cc)) (rest e)

-- of more than one, each once, some are left behind any one
others-left : (p : ℕ) (ms : List ℕ) → AllPairs (λ m n. m ≢ n) ms → 1 ≤ length ms → (length ms == 1) ≡ false
    → 1 ≤ length (filter (λ m. not (m == p)) ms)
others-left p [] each some more = absurd (omega (arith, some))
others-left p (a ∷ []) each some more = absurd cc
others-left p (a ∷ b ∷ ms) each some more = go (a == p) refl (b == p) refl
  where
    rest : List ℕ
    rest = filter (λ m. not (m == p)) ms

    go : (one : Bool) → (a == p) ≡ one → (two : Bool) → (b == p) ≡ two
        → 1 ≤ length (if not one then a ∷ (if not two then b ∷ rest else rest) else (if not two then b ∷ rest else rest))
    go false e two f = omega arith
    go true e false f = omega arith
    go true e true f = absurd (each 0 1 a (omega arith) (omega arith) (eqb-true a p e ∙ sym (eqb-true b p f)))

none-of-three : {A : Type 0} (b c d : Bool) (x y z : A) → first_that_holds ((b, x) ∷ (c, y) ∷ (d, z) ∷ []) ≡ None
    → (c ≡ false) × (d ≡ false)
none-of-three true c d x y z e = absurd cc
none-of-three false true d x y z e = absurd cc
none-of-three false false true x y z e = absurd cc
none-of-three false false false x y z e = (refl, refl)

pub next_is_view : (v : View) (u : Update) → next_fault v u ≡ None → IsView v → IsView (next_view v u)
next_is_view v Renew e ok = record { some = ok.some; few = ok.few; distinct = ok.distinct }
next_is_view v (Remove p) e ok =
    let no = none-of-three (v.number == 1023) (not (is_member v p)) (length v.members == 1) ViewsSpent NotMember LastMember e in
    record {
      some = others-left p v.members ok.distinct ok.some no.1;
      few = (let kept = length-filter (λ m. not (m == p)) v.members in let le = count_by-le-length
          (λ m. not (m == p)) v.members in let few = ok.few in omega (arith, kept, le, few));
      distinct = AllPairs-filter (λ m n. m ≢ n) (λ m. not (m == p)) v.members ok.distinct;
    }
next_is_view v (Add p) e ok =
    let no = none-of-three (v.number == 1023) (is_member v p) (length v.members == most_members) ViewsSpent AlreadyMember GroupFull e in
    let longer = length-append v.members (p ∷ []) in
    let new = has_not v.members p no.0 in
    record {
      some = omega (arith, longer);
      few = one-more (length v.members) (length (v.members ++ p ∷ [])) ok.few no.1 longer;
      distinct = all_pairs_push (λ m n. m ≢ n) v.members p ok.distinct (λ k d lt. new k d lt);
    }
  where
    one-more : (n m : ℕ) → n ≤ 16 → (n == 16) ≡ false → m ≡ n + 1 → m ≤ 16
    one-more n m few other long = let differ : n ≢ 16 = (λ same. absurd (let one : (n == 16) ≡ true = eq-eqb n 16 same in cc)) in omega
        (arith, few, differ, long)
