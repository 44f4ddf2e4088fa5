-- Lists whose elements are all so.
use Rattle.std.proofs.Common.{ℕ, ◌+◌, ◌≤◌, List, [], ◌∷◌, length, ap, subst, arith, inl, inr}
use Rattle.std.specs.Prelude.{All}
use Rattle.std.specs.List.{range_with_len}
use Rattle.std.proofs.lemmas.List.FromFn.{length-range_with_len}
use Rattle.std.proofs.lemmas.List.Concat.{length-flat_map}
use Rattle.std.proofs.lemmas.List.Sums.{sum_by-le}
use Rattle.message_defs.specs.Limits.{most_places}
use Rattle.group_defs.specs.Process.{Delivered, places_in}
use Rattle.group_defs.specs.Accounts.{IsByPlace, at_place}
use Rattle.member_state.specs.Bounds.{AreFew}
use Rattle.pool_laws.proofs.Members.{mem-All, All-mem}
use Rattle.pool_laws.proofs.Places.{mem-range}
use Rattle.snapshot_defs.specs.Ranges.{EachFrom}

-- at most 16 messages at each place
pub few-of : (ds : List Delivered) → IsByPlace ds → places_in ds ≤ most_places → AreFew ds
few-of ds by few =
    let each = mem-All (λ k. length (at_place k ds) ≤ 16) (range_with_len 0 (places_in ds))
    (λ k m. (by.batches k (let at = mem-range 0 (places_in ds) k m in omega (arith, at))).1) in
    let all = sum_by-le (λ k. length (at_place k ds)) 16 (range_with_len 0 (places_in ds)) each in
    let long = length-flat_map (λ k. at_place k ds) (range_with_len 0 (places_in ds)) in
    let whole = ap (λ (es : List Delivered). length es) by.together in
    let many = length-range_with_len 0 (places_in ds) in
    record { places = few; messages = omega (arith, all, long, whole, many) }

pub each-all : {A : Type 0} (P : A → Type 0) (k : ℕ) (xs : List A) → EachFrom (λ j x. P x) k xs → All P xs
each-all P k [] each = λ j d far. absurd (omega (arith, far))
each-all P k (x ∷ xs) each = mem-All P (x ∷ xs) (λ y m. elim m [
  | inl is ↦ subst P is each.0
  | inr later ↦ All-mem P xs y (each-all P (k + 1) xs each.1) later
])
