-- Cells change behind a mark, and what they were at the mark is still to be had.
use Rattle.std.proofs.Common.{◌≡◌, ℕ, zero, suc, ◌<◌, ◌≤◌, Bool, true, false, List, [], ◌∷◌, ◌++◌, length, take, slice_get, Option, Some, None, refl, sym, ap, ◌∙◌, arith, subst, unwrap_or, length-append}
use Rattle.std.specs.Prelude.{nat_lt, if◌then◌else◌}
use Rattle.std.specs.Option.{option_map, option_to_list}
use Rattle.std.specs.List.{AllByRecursion}
use Rattle.std.proofs.lemmas.Bool.{ltb-true, ltb-false}
use Rattle.std.proofs.lemmas.List.{take-append-le, length-take, append-nil}
use Rattle.std.proofs.Math.Seq.{take-length}
use Rattle.group_defs.specs.Process.{Pool}
use Rattle.indexmap.specs.Layout.{set_value_at, length-set_value_at}
use Rattle.claim_index.specs.declared.key.SlotKey.{SlotKey}
use Rattle.slot_quorums.specs.declared.cell.Cell.{Cell}
use Rattle.slot_quorums.specs.Cells.{IsFoundAt, AreCells}
use Rattle.slot_quorums.specs.Marks.{placed, noted, restored, AreMarkedCells}

abbrev Cells : Type 0
Cells = List (SlotKey × Cell)

-- ---- one cell is put, and put back

take-set : (n : ℕ) (cs : Cells) (i : ℕ) (c : Cell) → take n (set_value_at cs i c) ≡ set_value_at (take n cs) i c
take-set zero [] i c = refl
take-set zero (x ∷ cs) i c = refl
take-set (suc n) [] i c = refl
take-set (suc n) (x ∷ cs) zero c = refl
take-set (suc n) (x ∷ cs) (suc i) c = ap (λ more. x ∷ more) (take-set n cs i c)

set-beyond : (cs : Cells) (i : ℕ) (c : Cell) → length cs ≤ i → set_value_at cs i c ≡ cs
set-beyond [] i c le = refl
set-beyond (x ∷ cs) zero c le = absurd (omega (arith, le))
set-beyond (x ∷ cs) (suc i) c le = ap (λ more. x ∷ more) (set-beyond cs i c (omega (arith, le)))

set-again : (cs : Cells) (i : ℕ) (a c : Cell) → set_value_at (set_value_at cs i a) i c ≡ set_value_at cs i c
set-again [] i a c = refl
set-again (x ∷ cs) zero a c = refl
set-again (x ∷ cs) (suc i) a c = ap (λ more. x ∷ more) (set-again cs i a c)

some-is : {A : Type 0} (x y : A) → Some x ≡ Some y → x ≡ y
some-is x y same = ap (λ o. unwrap_or o x) same

set-same : (cs : Cells) (i : ℕ) (k : SlotKey) (c : Cell) → slice_get cs i ≡ Some (k, c) → set_value_at cs i c ≡ cs
set-same [] i k c at = absurd cc
set-same (x ∷ cs) zero k c at =
    let same = some-is x (k, c) at in
    ap (λ (y : SlotKey × Cell). (y.0, c) ∷ cs) same ∙ ap (λ (y : SlotKey × Cell). y ∷ cs) (sym same)
set-same (x ∷ cs) (suc i) k c at = ap (λ more. x ∷ more) (set-same cs i k c at)

take-there : (n : ℕ) (cs : Cells) (i : ℕ) → i < n → slice_get (take n cs) i ≡ slice_get cs i
take-there zero cs i lt = absurd (omega (arith, lt))
take-there (suc n) [] i lt = refl
take-there (suc n) (x ∷ cs) zero lt = refl
take-there (suc n) (x ∷ cs) (suc i) lt = take-there n cs i (omega (arith, lt))

-- ---- many cells are

pub restored-push : (xs : List (ℕ × Cell)) (cs : Cells) (i : ℕ) (c : Cell)
    → restored (xs ++ (i, c) ∷ []) cs ≡ restored xs (set_value_at cs i c)
restored-push [] cs i c = refl
restored-push (x ∷ xs) cs i c = ap (λ more. set_value_at more x.0 x.1) (restored-push xs cs i c)

pub length-restored : (xs : List (ℕ × Cell)) (cs : Cells) → length (restored xs cs) ≡ length cs
length-restored [] cs = refl
length-restored (x ∷ xs) cs = length-set_value_at (restored xs cs) x.0 x.1 ∙ length-restored xs cs

-- ---- a cell changes, and what it was is noted

module _ (cs : Cells) (key : SlotKey) (c : Cell) (marked : ℕ) (changed : List (ℕ × Cell)) (few : marked ≤ length cs) where
  same-new : restored (changed ++ noted cs marked None) (take marked (placed cs key None c)) ≡ restored changed (take marked cs)
  same-new = ap (λ xs. restored xs (take marked (cs ++ (key, c) ∷ []))) (append-nil changed)
      ∙ ap (restored changed) (take-append-le marked cs ((key, c) ∷ []) few)

  same-old : (i : ℕ) (was : Cell) → slice_get cs i ≡ Some (key, was)
      → restored (changed ++ noted cs marked (Some i)) (take marked (set_value_at cs i c)) ≡ restored changed (take marked cs)
  same-old i was at = go (nat_lt i marked) refl
    where
      go : (b : Bool) → nat_lt i marked ≡ b
          → restored (changed ++ noted cs marked (Some i)) (take marked (set_value_at cs i c)) ≡ restored changed (take marked cs)
      go true e =
          let lt : i < marked = ltb-true i marked e in
          let note : noted cs marked (Some i) ≡ (i, was) ∷ [] = rw (e, at) refl in
          let there : slice_get (take marked cs) i ≡ Some (key, was) = take-there marked cs i lt ∙ at in
          ap (λ xs. restored (changed ++ xs) (take marked (set_value_at cs i c))) note
          ∙ restored-push changed (take marked (set_value_at cs i c)) i was
          ∙ ap (λ ys. restored changed (set_value_at ys i was)) (take-set marked cs i c)
          ∙ ap (restored changed) (set-again (take marked cs) i c was ∙ set-same (take marked cs) i key was there)
      go false e =
          let le : marked ≤ i = ltb-false i marked e in
          let short : length (take marked cs) ≤ i = omega (arith, le, length-take marked cs) in
          let note : noted cs marked (Some i) ≡ [] = rw e refl in
          ap (λ xs. restored (changed ++ xs) (take marked (set_value_at cs i c))) note
          ∙ ap (λ xs. restored xs (take marked (set_value_at cs i c))) (append-nil changed)
          ∙ ap (restored changed) (take-set marked cs i c ∙ set-beyond (take marked cs) i c short)

  pub same_then : (at : Option ℕ) → IsFoundAt cs key at
      → restored (changed ++ noted cs marked at) (take marked (placed cs key at c)) ≡ restored changed (take marked cs)
  same_then None stands = same-new
  same_then (Some i) stands = same-old i stands.0 stands.1

-- ---- each was there

pub all-but-last : (P : ℕ × Cell → Type 0) (xs : List (ℕ × Cell)) (x : ℕ × Cell) → AllByRecursion P (xs ++ x ∷ [])
    → AllByRecursion P xs × P x
all-but-last P [] x all = (tt, all.0)
all-but-last P (y ∷ xs) x all = ((all.0, (all-but-last P xs x all.1).0), (all-but-last P xs x all.1).1)

all-and : (P : ℕ × Cell → Type 0) (xs ys : List (ℕ × Cell)) → AllByRecursion P xs → AllByRecursion P ys → AllByRecursion P (xs ++ ys)
all-and P [] ys all more = more
all-and P (x ∷ xs) ys all more = (all.0, all-and P xs ys all.1 more)

noted-old : (cs : Cells) (marked : ℕ) (at : Option ℕ) → AllByRecursion (λ x. x.0 < marked) (noted cs marked at)
noted-old cs marked None = tt
noted-old cs marked (Some i) = go (nat_lt i marked) refl (slice_get cs i)
  where
    go : (b : Bool) → nat_lt i marked ≡ b → (o : Option (SlotKey × Cell))
        → AllByRecursion (λ (x : ℕ × Cell). x.0 < marked) (if b then option_to_list (option_map (λ e. (i, e.1)) o) else [])
    go true e None = tt
    go true e (Some x) = (ltb-true i marked e, tt)
    go false e o = tt

length-placed : (cs : Cells) (key : SlotKey) (at : Option ℕ) (c : Cell) → length cs ≤ length (placed cs key at c)
length-placed cs key None c = omega (arith, length-append cs ((key, c) ∷ []))
length-placed cs key (Some i) c = omega (arith, length-set_value_at cs i c)

-- ---- the mark stands

pub still_marked : (h g k : Pool) (cs : Cells) (key : SlotKey) (at : Option ℕ) (c : Cell) (marked : ℕ) (changed : List (ℕ × Cell))
    → AreMarkedCells h g cs marked changed → IsFoundAt cs key at → AreCells k (placed cs key at c)
    → AreMarkedCells k g (placed cs key at c) marked (changed ++ noted cs marked at)
still_marked h g k cs key at c marked changed was stands here = record {
  here = here;
  there = subst (AreCells g) (sym (same_then cs key c marked changed was.few at stands)) was.there;
  few = omega (arith, was.few, length-placed cs key at c);
  old = all-and (λ x. x.0 < marked) changed (noted cs marked at) was.old (noted-old cs marked at);
}

pub rewound : (h g : Pool) (cs : Cells) (marked : ℕ) (changed : List (ℕ × Cell)) → AreMarkedCells h g cs marked changed
    → AreMarkedCells g g (restored changed (take marked cs)) marked []
rewound h g cs marked changed was =
    let many : length (restored changed (take marked cs)) ≡ marked = length-restored changed (take marked cs)
    ∙ (let short = length-take marked cs in omega (arith, short, was.few)) in
    record {
      here = was.there;
      there = subst (AreCells g) (sym (ap (λ n. take n (restored changed (take marked cs))) (sym many)
          ∙ take-length (restored changed (take marked cs)))) was.there;
      few = omega (arith, many);
      old = tt;
    }
