-- The last host with one more pair, or as it was.
use Rattle.std.proofs.Common.{◌≡◌, ℕ, zero, suc, List, [], ◌∷◌, ◌++◌, length, get_or, Result, Ok, Err, refl, ap, ◌∙◌, arith}
use Rattle.std.specs.Prelude.{slice_set, OnErr}
use Rattle.kit_defs.specs.Kits as plain
use Rattle.kit_defs.specs.KitReading.{with_pair}
use Rattle.kit_file.specs.declared.parts.Host.{Host}
use Rattle.kit_file.specs.Views.{host, hosts}

module _ (pair : ℕ × List ℕ) where
  pub last_with_pair : (hs : List Host) (n : ℕ) (h g : Host) → suc n ≡ length hs → h ≡ get_or hs n h
      → host g ≡ record (host h) { pairs = h.pairs.items ++ pair ∷ [] } → hosts (slice_set hs n g) ≡ with_pair pair (hosts hs)
  last_with_pair [] n h g count is same = absurd (omega arith)
  last_with_pair (x ∷ []) zero h g count is same = ap (λ (y : plain.Host). y ∷ [])
      (same ∙ ap (λ (y : Host). record (host y) { pairs = y.pairs.items ++ pair ∷ [] }) is)
  last_with_pair (x ∷ []) (suc n) h g count is same = absurd (omega arith)
  last_with_pair (x ∷ y ∷ hs) zero h g count is same = absurd (omega arith)
  last_with_pair (x ∷ y ∷ hs) (suc n) h g count is same = ap (λ (t : List plain.Host). host x ∷ t)
      (last_with_pair (y ∷ hs) n h g (omega arith) is same)

pub last_as_it_was : (hs : List Host) (n : ℕ) (h g : Host) → h ≡ get_or hs n h → host g ≡ host h → hosts (slice_set hs n g) ≡ hosts hs
last_as_it_was [] n h g is same = refl
last_as_it_was (x ∷ hs) zero h g is same = ap (λ (y : plain.Host). y ∷ hosts hs) (same ∙ ap host is)
last_as_it_was (x ∷ hs) (suc n) h g is same = ap (λ (t : List plain.Host). host x ∷ t) (last_as_it_was hs n h g is same)

-- what holds of an error, where it holds of all
pub on_err : {A E P : Type 0} (r : Result A E) → P → OnErr r P
on_err (Ok a) p = tt
on_err (Err e) p = p
