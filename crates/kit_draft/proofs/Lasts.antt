-- The last host, and the pair line that comes next behind its own.
use Rattle.std.proofs.Common.{◌≡◌, suc, ◌-◌, List, [], ◌∷◌, length, drop, Some, None, option_map, option_and_then, refl, ap, ◌∙◌, arith}
use Rattle.std.specs.Prelude.{slice_get}
use Rattle.kit_defs.specs.Kits.{others_than, roster_of}
use Rattle.kit_defs.specs.KitReading.{Draft, first_of, last_of, next_other, next_pair}
use Rattle.kit_file.specs.declared.parts.Host.{Host}
use Rattle.kit_file.specs.Views.{host, hosts}

last_is : (hs : List Host) → last_of (hosts hs) ≡ option_map host (slice_get hs (length hs - 1))
last_is [] = refl
last_is (h ∷ []) = refl
last_is (h ∷ g ∷ hs) =
    let one : suc (suc (length hs)) - 1 ≡ suc (length hs) = omega arith in
    let same : suc (length hs) - 1 ≡ length hs = omega arith in
    last_is (g ∷ hs) ∙ rw (one, same) refl

module _ (d : Draft) (hs : List Host) (is : d.hosts ≡ hosts hs) where
  pub none_behind : slice_get hs (length hs - 1) ≡ None → next_pair d ≡ None
  none_behind none = ap (λ o. option_and_then (λ h. option_map (λ q. (h.process, q)) (next_other d h)) o)
      (ap last_of is ∙ last_is hs ∙ ap (option_map host) none)

  pub next_behind : (h : Host) → slice_get hs (length hs - 1) ≡ Some h
      → next_pair d ≡ option_map (λ q. (h.process, q)) (first_of (drop (length h.pairs.items) (others_than h.process (roster_of d.keys))))
  next_behind h some = ap (λ o. option_and_then (λ g. option_map (λ q. (g.process, q)) (next_other d g)) o)
      (ap last_of is ∙ last_is hs ∙ ap (option_map host) some)
