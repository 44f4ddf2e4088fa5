-- Rising rosters.
use Rattle.std.proofs.Common.{◌≡◌, ℕ, ◌+◌, ◌<◌, List, length, take, get_or, refl, sym, ap, ◌∙◌, arith}
use Rattle.std.proofs.lemmas.List.{get_or-map, get_or-take, take_more, map-append, length-map, length-take-le}
use Rattle.std.proofs.lemmas.List.Elements.{All-map}
use Rattle.std.specs.Prelude.{map, All}
use Rattle.rp_base.specs.declared.roster.Listed.{Listed}
use Rattle.rp_base.specs.Rosters.{keys_of, IsRising}
use Rattle.rp_base.specs.Pids.{put_once}
use Rattle.rp_base.proofs.Members.{put_last}

module _ (items : List Listed) (i : ℕ) (x : Listed) (rising : IsRising (keys_of items)) (within : i < length items)
    (is : x ≡ get_or items i x) where
  all_below : All (λ k. k.process < x.process) (take i items)
  all_below k d h =
      let len : length (take i items) ≡ i = length-take-le i items (omega arith) in
      let below : k < i = omega arith in
      let e : ℕ × List ℕ = (d.process, d.key.items) in
      let pair : (get_or (keys_of items) k e).0 < (get_or (keys_of items) i e).0 = rising k i e below (rw length-map within) in
      let first : (get_or (keys_of items) k e).0
      ≡ (get_or items k d).process = ap (λ q. q.0) (get_or-map (λ (y : Listed). (y.process, y.key.items)) items k d e (omega arith)) in
      let second : (get_or (keys_of items) i e).0
      ≡ x.process = ap (λ q. q.0) (get_or-map (λ (y : Listed). (y.process, y.key.items)) items i x e within) ∙ ap (λ y. y.process)
      (sym is) in
      rw (get_or-take i items k d below) (omega arith)

  -- the first i and the next
  pub put_next : put_once x.process (map (λ k. k.0) (keys_of (take i items))) ≡ map (λ k. k.0) (keys_of (take (i + 1) items))
  put_next =
      put_last x.process (map (λ k. k.0) (keys_of (take i items)))
      (All-map (λ q. q < x.process) (λ k. k.0) (keys_of (take i items))
      (All-map (λ k. k.0 < x.process) (λ k. (k.process, k.key.items)) (take i items) all_below))
      ∙ rw (take_more items i x within, ← is, map-append, map-append) refl
