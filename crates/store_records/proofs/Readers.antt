-- A reader with one fault that answers what reading on lists gives is exact over the grammar that reading has.
use Rattle.std.proofs.Common.{◌≡◌, ℕ, List, Option, Some, None, Ok, Err, sym, ap, ◌∙◌}
use Rattle.std.specs.Option.{IfSome, IsSomeAnd}
use Rattle.store_defs.specs.Stores.{Reading}
use Rattle.store_defs.specs.Laws.{AreBytes}
use Rattle.store_records.specs.Finds.{Finds}

module _ {X Y : Type 0} (view : X → Y) (read : List ℕ → Reading Y) (spelled : Y → List ℕ) (IsIt : Y → Type 0) where
  pub found_is_spelled : ((bytes : List ℕ) (y : Y) → AreBytes bytes → read bytes ≡ Ok y → (bytes ≡ spelled y) × IsIt y)
      → (r : Option X) (bytes : List ℕ) → AreBytes bytes → Finds view r (read bytes) → IfSome r (λ x. IsIt (view x) × (bytes ≡ spelled (view x)))
  found_is_spelled law None bytes fits finds = tt
  found_is_spelled law (Some x) bytes fits finds = let s = law bytes (view x) fits finds in (s.1, s.0)

  pub spelled_is_found : ((y : Y) → IsIt y → read (spelled y) ≡ Ok y) → (r : Option X) (bytes : List ℕ) (y : Y) → Finds view r (read bytes)
      → IsIt y → bytes ≡ spelled y → IsSomeAnd r (λ x. view x ≡ y)
  spelled_is_found law None bytes y finds is so = absurd (no_fault (sym finds ∙ ap read so ∙ law y is))
    where
      broken : Reading Y
      broken = Err tt

      done : Reading Y
      done = Ok y

      no_fault : broken ≡ done → ⊥
      no_fault h = cc
  spelled_is_found law (Some x) bytes y finds is so = same (view x) (sym finds ∙ ap read so ∙ law y is)
    where
      one : Y → Reading Y
      one z = Ok z

      same : (z : Y) → one z ≡ one y → z ≡ y
      same z h = cc
