-- The rank of a member is where it stands in the list.
use Rattle.std.proofs.Common.{◌≡◌, ℕ, suc, ◌+◌, ◌<◌, List, [], ◌∷◌, length, map, Some, None, Bool, true, false, cond, refl, ap, ◌∙◌, arith, slice_get}
use Rattle.std.specs.Prelude.{◌==◌, ◌||◌, not, unwrap_or, option_map, slice_index}
use Rattle.std.specs.List.{prefix_len}
use Rattle.std.proofs.lemmas.Bool.{eqb-true, lt-ltb}
use Rattle.group_defs.specs.Below.{has}
use Rattle.group_defs.specs.Views.{View, is_member, rank_of}
use Rattle.pool_laws.proofs.Places.{map-get, index-is}

-- so many stand before it
abbrev before : ℕ → List ℕ → ℕ
before p ms = prefix_len (λ q. not (q == p)) ms

stands : (ms : List ℕ) (p : ℕ) → has ms p ≡ true → (before p ms < length ms) × (slice_get ms (before p ms) ≡ Some p)
stands [] p e = absurd cc
stands (m ∷ ms) p e = go (m == p) refl e (stands ms p)
  where
    go : (b : Bool) → (m == p) ≡ b → (b || has ms p) ≡ true
        → (has ms p ≡ true → (before p ms < length ms) × (slice_get ms (before p ms) ≡ Some p))
        → (cond (not b) (1 + before p ms) 0 < suc (length ms)) × (slice_get (m ∷ ms) (cond (not b) (1 + before p ms) 0) ≡ Some p)
    go true is e rest = (omega arith, ap Some (eqb-true m p is))
    go false is e rest =
        let r = rest e in
        let one : 1 + before p ms ≡ suc (before p ms) = omega arith in
        ((let lt = r.0 in omega (arith, lt)), ap (slice_get (m ∷ ms)) one ∙ r.1)

-- a member has a rank, and stands at it
pub rank-of-member : (v : View) (p : ℕ) → is_member v p ≡ true
    → (r : ℕ) × (rank_of v p ≡ Some r) × (r < length v.members) × (slice_get v.members r ≡ Some p)
rank-of-member v p e =
    let at = stands v.members p e in (
      before p v.members,
      ap (λ b. cond b (Some (before p v.members)) None) (lt-ltb (before p v.members) (length v.members) at.0),
      at.0,
      at.1,
    )

-- of a list made of the members, what stands at its rank is made of it
pub at-rank : (v : View) (f : ℕ → ℕ) (p : ℕ) → is_member v p ≡ true
    → unwrap_or (option_map (λ r. slice_index (map f v.members) r) (rank_of v p)) 0 ≡ f p
at-rank v f p e =
    let r = rank-of-member v p e in
    ap (λ o. unwrap_or (option_map (λ r. slice_index (map f v.members) r) o) 0) r.1
    ∙ index-is (map f v.members) r.0 0 (f p) (map-get f v.members r.0 p r.3)
