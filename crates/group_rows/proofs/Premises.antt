-- How a row shows that the premises of the laws hold of its family, or fail: by the tests that the report computes.
use Rattle.std.proofs.Common.{◌≡◌, ◌≢◌, ℕ, zero, suc, ◌+◌, ◌<◌, List, [], ◌∷◌, length, Bool, true, false, refl, sym, subst, arith}
use Rattle.std.specs.Prelude.{◌&&◌, ◌==◌, not, nat_lt, nat_le, slice_index, AllPairs}
use Rattle.std.specs.List.Sorted.{IsStrictlyIncreasing}
use Rattle.std.proofs.lemmas.Bool.{eqb-true, leb-true, ltb-true}
use Rattle.std.proofs.lemmas.List.Kept.{AllPairs-cons}
use Rattle.byte_defs.specs.Members.{has}
use Rattle.group_defs.specs.Views.{IsView}
use Rattle.group_defs.proofs.FollowingViews.{has_not}
use Rattle.group_defs.specs.Accounts.{Bounded, bounded, Agree, agree, Sound, sound}
use Rattle.group_defs.specs.Family.{Family, ends, accounts, numbers, Honest, honest}
use Rattle.group_defs.specs.Process.{keyed}
use Rattle.group_defs.specs.Laws.{Premises}
use Rattle.pool_laws.proofs.Tests.{and-first, and-second}
use Rattle.safety_laws.proofs.Tested.{bounded_is_tested, honest_is_tested}
use Rattle.safety_laws.proofs.AgreeTested.{accounts_have_lists, agree_is_tested}
use Rattle.safety_laws.proofs.SoundTested.{sound_is_tested}

-- ---- tests of the genesis and of the numbers

abbrev pub are_distinct : List ℕ → Bool
are_distinct [] = true
are_distinct (x ∷ xs) = not (has xs x) && are_distinct xs

abbrev pub are_rising : List ℕ → Bool
are_rising [] = true
are_rising (x ∷ []) = true
are_rising (x ∷ y ∷ more) = nat_lt x y && are_rising (y ∷ more)

abbrev pub is_view : List ℕ → Bool
is_view members = nat_le 1 (length members) && nat_le (length members) 16 && are_distinct members

abbrev pub is_well_set : Family → Bool
is_well_set f = is_view f.setting.genesis.members && (f.setting.genesis.number == 0) && are_rising (numbers f)

not-true : (b : Bool) → not b ≡ true → b ≡ false
not-true true e = absurd cc
not-true false e = refl

distinct : (xs : List ℕ) → are_distinct xs ≡ true → AllPairs (λ m n. m ≢ n) xs
distinct [] e = λ i j d lt far. absurd (omega (arith, far))
distinct (x ∷ xs) e =
    let others = has_not xs x (not-true (has xs x) (and-first (not (has xs x)) (are_distinct xs) e)) in
    AllPairs-cons (λ m n. m ≢ n) x xs (λ k d lt is. others k d lt (sym is)) (distinct xs (and-second (not (has xs x)) (are_distinct xs) e))

rising : (xs : List ℕ) → are_rising xs ≡ true → IsStrictlyIncreasing xs
rising [] e k lt = absurd (omega (arith, lt))
rising (x ∷ []) e k lt = absurd (omega (arith, lt))
rising (x ∷ y ∷ more) e zero lt = ltb-true x y (and-first (nat_lt x y) (are_rising (y ∷ more)) e)
rising (x ∷ y ∷ more) e (suc k) lt =
    let next : suc k + 1 ≡ suc (k + 1) = omega arith in
    let rest = rising (y ∷ more) (and-second (nat_lt x y) (are_rising (y ∷ more)) e) k (omega (arith, lt)) in
    subst (λ j. slice_index (y ∷ more) k < slice_index (x ∷ y ∷ more) j) (sym next) rest

view-is : (f : Family) → is_view f.setting.genesis.members ≡ true → IsView f.setting.genesis
view-is f e =
    let ms : List ℕ = f.setting.genesis.members in
    let sizes = and-first (nat_le 1 (length ms) && nat_le (length ms) 16) (are_distinct ms) e in
    record {
      some = leb-true 1 (length ms) (and-first (nat_le 1 (length ms)) (nat_le (length ms) 16) sizes);
      few = leb-true (length ms) 16 (and-second (nat_le 1 (length ms)) (nat_le (length ms) 16) sizes);
      distinct = distinct ms (and-second (nat_le 1 (length ms) && nat_le (length ms) 16) (are_distinct ms) e);
    }

-- ---- the premises, and what is false where a test fails

pub premises-of : (f : Family) → is_well_set f ≡ true → honest f ≡ true → bounded (accounts f) (numbers f) ≡ true → Premises f
premises-of f set is_honest is_bounded =
    let two = and-first (is_view f.setting.genesis.members && (f.setting.genesis.number == 0)) (are_rising (numbers f)) set in
    record {
      genesis = view-is f (and-first (is_view f.setting.genesis.members) (f.setting.genesis.number == 0) two);
      first = eqb-true f.setting.genesis.number 0 (and-second (is_view f.setting.genesis.members) (f.setting.genesis.number == 0) two);
      rising = rising (numbers f) (and-second (is_view f.setting.genesis.members && (f.setting.genesis.number == 0))
          (are_rising (numbers f)) set);
      honest = (honest_is_tested f).0 is_honest;
      bounded = (bounded_is_tested (accounts f) (numbers f)).0 is_bounded;
    }

clash : {b : Bool} → b ≡ false → b ≡ true → ⊥
clash e e' = cc

pub not-honest : (f : Family) → honest f ≡ false → Honest f → ⊥
not-honest f e holds = clash e ((honest_is_tested f).1 holds)

pub not-bounded : (f : Family) → bounded (accounts f) (numbers f) ≡ false → Bounded (accounts f) (numbers f) → ⊥
not-bounded f e holds = clash e ((bounded_is_tested (accounts f) (numbers f)).1 holds)

pub not-agreed : (f : Family) → agree (accounts f) ≡ false → Agree (accounts f) → ⊥
not-agreed f e holds = clash e ((agree_is_tested (accounts f) (accounts_have_lists (ends f))).1 holds)

pub not-sound : (f : Family) → sound (accounts f) (keyed f.setting) ≡ false → Sound (accounts f) (keyed f.setting) → ⊥
not-sound f e holds = clash e ((sound_is_tested (accounts f) (keyed f.setting) (accounts_have_lists (ends f))).1 holds)

-- ---- a row's four answers

pub four : {a b c d a' b' c' d' : Bool} → a ∷ b ∷ c ∷ d ∷ [] ≡ a' ∷ b' ∷ c' ∷ d' ∷ [] → (a ≡ a') × (b ≡ b') × (c ≡ c') × (d ≡ d')
four e = (cc, cc, cc, cc)
