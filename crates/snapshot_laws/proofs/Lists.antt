-- Lists: each entry is taken by its position.
use Rattle.std.proofs.Common.{◌≡◌, ℕ, zero, suc, ◌+◌, List, [], ◌∷◌, ◌++◌, length, Ok, refl, sym, ap, subst, append_assoc}
use Rattle.std.specs.List.{flat_map}
use Rattle.std.specs.Int.{w32}
use Rattle.byte_defs.proofs.Fields.{IsBytes, Takes, Takes-then, bind_ok, ok_is}
use Rattle.snapshot_defs.specs.Steps.{Step, times_at, counted_at, wide_at, list_at}
use Rattle.snapshot_defs.specs.Ranges.{EachFrom, IsListOf}
use Rattle.image_defs.specs.Spelling.{list_bytes}
use Rattle.snapshot_laws.proofs.Fields.{IsField, long_is}

module _ {A : Type 0} (entry : ℕ → List ℕ → Step A) {spell : A → List ℕ} {Is : ℕ → A → Type 0}
    (f : (k : ℕ) → IsField (entry k) spell (Is k)) where
  abbrev AreTaken : ℕ → ℕ → List ℕ → List A × List ℕ → Type 0
  AreTaken k n bytes x = Takes bytes (flat_map spell x.0) x.1 × (length x.0 ≡ n) × EachFrom Is k x.0

  pub times_takes : (k n : ℕ) (bytes : List ℕ) (x : List A × List ℕ) → IsBytes bytes → times_at entry k n bytes ≡ Ok x → AreTaken k n bytes x
  unfolding times_at
  times_takes k zero bytes x fits e =
      let none : List A × List ℕ = ([], bytes) in
      subst (λ (y : List A × List ℕ). AreTaken k zero bytes y) {x = none} {y = x} (ok_is none x e)
      (record { parts = refl; rest_fits = fits }, refl, tt)
  times_takes k (suc n) bytes x fits e =
      let a = bind_ok (entry k bytes) _ x e in
      let b = bind_ok (times_at entry (k + 1) n a.0.1) _ x a.2 in
      let p = (f k).takes bytes a.0 fits a.1 in
      let q = times_takes (k + 1) n a.0.1 b.0 p.0.rest_fits b.1 in
      let all : List A × List ℕ = (a.0.0 ∷ b.0.0, b.0.1) in
      subst (λ (y : List A × List ℕ). AreTaken k (suc n) bytes y) {x = all} {y = x} (ok_is all x b.2)
      (Takes-then bytes (spell a.0.0) a.0.1 (flat_map spell b.0.0) b.0.1 p.0 q.0, ap suc q.1, (p.1, q.2))

  pub times_again : (k : ℕ) (xs : List A) (rest : List ℕ) → EachFrom Is k xs
      → times_at entry k (length xs) (flat_map spell xs ++ rest) ≡ Ok (xs, rest)
  unfolding times_at
  times_again k [] rest each = refl
  times_again k (x ∷ xs) rest each = rw (
    append_assoc (spell x) (flat_map spell xs) rest,
    (f k).again x (flat_map spell xs ++ rest) each.0,
    times_again (k + 1) xs rest each.1,
  ) refl

  -- so many of them
  pub times_is : (k n : ℕ) → IsField (times_at entry k n) (flat_map spell) (λ xs. (length xs ≡ n) × EachFrom Is k xs)
  times_is k n = record {
    takes = λ bytes x fits e. let t = times_takes k n bytes x fits e in (t.0, (t.1, t.2));
    again = λ xs rest is. subst (λ (m : ℕ). times_at entry k m (flat_map spell xs ++ rest) ≡ Ok (xs, rest)) is.0
        (times_again k xs rest is.1);
  }

  module _ (number : List ℕ → Step ℕ) {write : ℕ → List ℕ} {Has : ℕ → Type 0} (g : IsField number write Has) where
    abbrev counted : List A → List ℕ
    counted xs = write (length xs) ++ flat_map spell xs

    abbrev AreCounted : List A → Type 0
    AreCounted xs = Has (length xs) × EachFrom Is 0 xs

    pub counted_is : IsField (counted_at number entry) counted AreCounted
    counted_is = record {
      takes = λ bytes x fits e.
          let a = bind_ok (number bytes) _ x e in
          let p = g.takes bytes a.0 fits a.1 in
          let q = times_takes 0 a.0.0 a.0.1 x p.0.rest_fits a.2 in
          subst (λ (n : ℕ). Takes bytes (write n ++ flat_map spell x.0) x.1 × (Has n × EachFrom Is 0 x.0)) (sym q.1)
          (Takes-then bytes (write a.0.0) a.0.1 (flat_map spell x.0) x.1 p.0 q.0, (p.1, q.2));
      again = λ xs rest is. rw (
        append_assoc (write (length xs)) (flat_map spell xs) rest,
        g.again (length xs) (flat_map spell xs ++ rest) is.0,
        times_again 0 xs rest is.1,
      ) refl;
    }

  pub list_is : IsField (list_at entry) (list_bytes spell) (IsListOf Is)
  list_is = counted_is (wide_at w32) long_is
