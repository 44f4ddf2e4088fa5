-- The signatures of an entry, handed out one after another.
use Rattle.std.proofs.Common.{◌≡◌, ℕ, zero, suc, ◌+◌, ◌-◌, ◌≤◌, List, [], ◌∷◌, length, drop, take, ltb, Option, None, Some, MatchOption, Result, Ok, Err, refl, sym, ap, subst, ◌∙◌, arith, inl, inr}
use Rattle.std.specs.Prelude.{slice_index_or}
use Rattle.std.specs.Borrow.{Bor}
use Rattle.std.specs.Int.{w16}
use Rattle.std.proofs.lemmas.Bool.{cases_lt, ltb-false}
use Rattle.std.proofs.lemmas.List.{drop-drop, length-drop, length-take}
use Rattle.byte_defs.specs.Fields.{◌>>=◌, refuse_if, number_at, bytes_at}
use Rattle.byte_defs.proofs.Fields.{bind_ok, refuse_ok, guard_ok}
use Rattle.message_defs.specs.Limits.{most_signature_bytes}
use Rattle.message_defs.specs.Entries.{kept_at, all_kept_at}
use Rattle.member_events.specs.Finds.{items_of}

-- ---- none has more bytes than a signature may

abbrev Read : Type 0 → Type 0
Read X = Result (X × List ℕ) (Unit {0})

kept-short : (bytes : List ℕ) (x : List ℕ × List ℕ) → kept_at bytes ≡ Ok x → length x.0 ≤ most_signature_bytes
unfolding kept_at
kept-short bytes x e =
    let n = bind_ok (number_at tt w16 bytes) (λ len. refuse_if (ltb most_signature_bytes len.0) tt >>= λ _. bytes_at tt len.0 len.1) x e in
    let r = refuse_ok (ltb most_signature_bytes n.0.0) tt (λ _. bytes_at tt n.0.0 n.0.1) x n.2 in
    let g = guard_ok (ltb (length n.0.1) n.0.0) tt (take n.0.0 n.0.1, drop n.0.0 n.0.1) x r.1 in
    let few : n.0.0 ≤ most_signature_bytes = ltb-false _ _ r.0 in
    let whole : length (take n.0.0 n.0.1) ≡ length x.0 = ap (λ (y : List ℕ × List ℕ). length y.0) g.1 in
    omega (arith, few, whole, length-take n.0.0 n.0.1)

abbrev with_first : List ℕ → Read (List (List ℕ)) → Read (List (List ℕ))
with_first x others = others >>= λ ys. Ok (x ∷ ys.0, ys.1)

abbrev behind : ℕ → Read (List ℕ) → Read (List (List ℕ))
behind n first = first >>= λ x. with_first x.0 (all_kept_at n x.1)

first-is : (x y : List ℕ) (others : Read (List (List ℕ))) (ys : List (List ℕ)) → items_of (with_first x others) ≡ y ∷ ys → x ≡ y
first-is x y (Ok zs) ys e = cc
first-is x y (Err f) ys e = absurd cc

first-short : (n : ℕ) (first : Read (List ℕ)) (y : List ℕ) (ys : List (List ℕ))
    → ((x : List ℕ × List ℕ) → first ≡ Ok x → length x.0 ≤ most_signature_bytes) → items_of (behind n first) ≡ y ∷ ys
    → length y ≤ most_signature_bytes
first-short n (Ok x) y ys each e = subst (λ (z : List ℕ). length z ≤ most_signature_bytes) (first-is x.0 y (all_kept_at n x.1) ys e)
    (each x refl)
first-short n (Err f) y ys each e = absurd cc

pub next-short : (n : ℕ) (bytes y : List ℕ) (ys : List (List ℕ)) → items_of (all_kept_at n bytes) ≡ y ∷ ys → length y ≤ most_signature_bytes
unfolding all_kept_at
next-short zero bytes y ys e = absurd cc
next-short (suc n) bytes y ys e = first-short n (kept_at bytes) y ys (kept-short bytes) e

-- ---- one after another

module _ (xs : List (List ℕ)) (k : ℕ) (y : List ℕ) (ys : List (List ℕ)) (at : drop k xs ≡ y ∷ ys) where
  -- the first of those that are left is the one at the place
  pub next-is : slice_index_or xs k [] ≡ y
  next-is = go xs k at
    where
      go : (xs : List (List ℕ)) (k : ℕ) → drop k xs ≡ y ∷ ys → slice_index_or xs k [] ≡ y
      go [] zero e = absurd cc
      go [] (suc k) e = absurd cc
      go (x ∷ xs) zero e = cc
      go (x ∷ xs) (suc k) e = go xs k e

  pub next-left : ys ≡ drop (k + 1) xs
  next-left = sym (sym (drop-drop 1 k xs) ∙ ap (drop 1) at)

-- ---- the signer that hands them out

pub some-left : (all left : List (List ℕ)) (before used total : ℕ) → before ≤ used → used ≤ total → total ≡ before + length all
    → left ≡ drop (used - before) all → (used ≡ total → ⊥) → left ≡ [] → ⊥
some-left all left before used total since within whole rest some none =
    let empty : length (drop (used - before) all) ≡ 0 = ap length (sym rest ∙ none) in
    some (omega (arith, since, within, whole, empty, length-drop (used - before) all))

pub one-more : (used total : ℕ) → used ≤ total → (used ≡ total → ⊥) → used + 1 ≤ total
one-more used total within some = elim
    (cases_lt used total) [ inl lt ↦ omega (arith, lt) | inr ge ↦ absurd (some (omega (arith, within, ge))) ]

pub passed-on : (all left more : List (List ℕ)) (before used : ℕ) (y : List ℕ) → before ≤ used → left ≡ drop (used - before) all
    → left ≡ y ∷ more → more ≡ drop ((used + 1) - before) all
passed-on all left more before used y since rest e =
    let next : (used - before) + 1 ≡ (used + 1) - before = omega (arith, since) in
    next-left all (used - before) y more (sym rest ∙ e) ∙ ap (λ k. drop k all) next

-- where none is left, none is left behind it
none-more : (all left more : List (List ℕ)) (before used : ℕ) → before ≤ used → left ≡ drop (used - before) all → left ≡ [] → more ≡ []
    → more ≡ drop ((used + 1) - before) all
none-more all left more before used since rest e f =
    let next : (used - before) + 1 ≡ (used + 1) - before = omega (arith, since) in
    f ∙ ap (drop 1) (sym e ∙ rest) ∙ drop-drop 1 (used - before) all ∙ ap (λ k. drop k all) next

-- one is passed over
pub skipped : (all left more : List (List ℕ)) (before used : ℕ) (r : Option (Bor (List ℕ))) → before ≤ used
    → left ≡ drop (used - before) all → MatchOption r ((left ≡ []) × (more ≡ [])) (λ x. left ≡ x.now ∷ more)
    → more ≡ drop ((used + 1) - before) all
skipped all left more before used None since rest e = none-more all left more before used since rest e.0 e.1
skipped all left more before used (Some x) since rest e = passed-on all left more before used x.now since rest e
