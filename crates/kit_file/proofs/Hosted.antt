-- Hosts by rising numbers, put into a set one after another.
use Rattle.std.proofs.Common.{◌≡◌, ℕ, ◌+◌, ◌<◌, List, length, take, get_or, refl, sym, ap, ◌∙◌, arith}
use Rattle.std.proofs.lemmas.List.{get_or-map, get_or-take, take_more, map-append, length-map, length-take-le}
use Rattle.std.proofs.lemmas.List.Elements.{All-map}
use Rattle.std.specs.Prelude.{map, All}
use Rattle.rp_base.specs.Pids.{put_once}
use Rattle.rp_base.proofs.Members.{put_last}
use Rattle.kit_defs.specs.Kits as plain
use Rattle.kit_file.specs.declared.parts.Host.{Host}
use Rattle.kit_file.specs.Views.{host, hosts, AreRising}

abbrev pub processes : List plain.Host → List ℕ
processes hs = map (λ h. h.process) hs

module _ (items : List Host) (i : ℕ) (x : Host) (rising : AreRising (hosts items)) (within : i < length items)
    (is : x ≡ get_or items i x) where
  all_below : All (λ h. h.process < x.process) (take i items)
  all_below k d h =
      let len : length (take i items) ≡ i = length-take-le i items (omega arith) in
      let below : k < i = omega arith in
      let e : plain.Host = host d in
      let pair : (get_or (hosts items) k e).process < (get_or (hosts items) i e).process = rising k i e below (rw length-map within) in
      let first : (get_or (hosts items) k e).process
      ≡ (get_or items k d).process = ap (λ h. h.process) (get_or-map host items k d e (omega arith)) in
      let second : (get_or (hosts items) i e).process
      ≡ x.process = ap (λ h. h.process) (get_or-map host items i x e within) ∙ ap (λ y. y.process) (sym is) in
      rw (get_or-take i items k d below) (omega arith)

  -- the first i and the next
  pub put_next : put_once x.process (processes (hosts (take i items))) ≡ processes (hosts (take (i + 1) items))
  put_next =
      put_last x.process (processes (hosts (take i items)))
      (All-map (λ p. p < x.process) (λ h. h.process) (hosts (take i items))
      (All-map (λ h. h.process < x.process) host (take i items) all_below))
      ∙ rw (take_more items i x within, ← is, map-append, map-append) refl
