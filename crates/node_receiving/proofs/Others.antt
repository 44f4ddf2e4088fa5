-- No process shares a key with itself.
use Rattle.std.proofs.Common.{◌≡◌, ℕ, ◌==◌, Bool, true, false, true≢false, List, [], ◌∷◌, Option, None, Some, refl, sym, ap, subst, ◌∙◌}
use Rattle.std.specs.Prelude.{◌≢◌, find, option_and_then, option_map}
use Rattle.std.proofs.Math.Logic.{∥∥₁_elim}
use Rattle.std.proofs.Props.{props}
use Rattle.byte_defs.specs.Members.{has}
use Rattle.kit_defs.specs.Kits.{Host, IsKit, Kit, others_than, roster_of}
use Rattle.node_defs.specs.Casts.{host_of, pair_of}
use Rattle.node_keys.proofs.InKits.{host_is}

-- it is not among the others of a roster
left-out : (p : ℕ) (roster : List ℕ) → has (others_than p roster) p ≡ false
left-out p [] = refl
left-out p (r ∷ roster) = go (r == p) refl (left-out p roster)
  where
    go : (b : Bool) → (r == p) ≡ b → has (others_than p roster) p ≡ false → has (others_than p (r ∷ roster)) p ≡ false
    go true same rest = rw same rest
    go false other rest = rw (other, other) rest

-- what is found by a number is there
found-there : (p : ℕ) (pairs : List (ℕ × List ℕ)) (pair : ℕ × List ℕ) → find (λ (x : ℕ × List ℕ). x.0 == p) pairs ≡ Some pair
    → has (roster_of pairs) p ≡ true
found-there p [] pair found = absurd cc
found-there p (x ∷ pairs) pair found = go (x.0 == p) refl (found-there p pairs pair)
  where
    go : (b : Bool) → (x.0 == p) ≡ b → (find (λ (y : ℕ × List ℕ). y.0 == p) pairs ≡ Some pair → has (roster_of pairs) p ≡ true)
        → has (roster_of (x ∷ pairs)) p ≡ true
    go true same rest = rw same refl
    go false other rest = rw other (rest (rw other at found))

-- ---- of a kit

none-own : (pairs : List (ℕ × List ℕ)) (p : ℕ) (roster key : List ℕ) → roster_of pairs ≡ others_than p roster
    → option_map (λ (pair : ℕ × List ℕ). pair.1) (find (λ (pair : ℕ × List ℕ). pair.0 == p) pairs) ≡ Some key → ⊥
none-own pairs p roster key are = go (find (λ (pair : ℕ × List ℕ). pair.0 == p) pairs) refl
  where
    go : (o : Option (ℕ × List ℕ)) → find (λ (pair : ℕ × List ℕ). pair.0 == p) pairs ≡ o
        → option_map (λ (pair : ℕ × List ℕ). pair.1) o ≡ Some key → ⊥
    go None found e = cc
    go (Some pair) found e = true≢false (sym (found-there p pairs pair found) ∙ ap (λ ps. has ps p) are ∙ left-out p roster)

own-none : (kit : Kit) (p : ℕ) (key : List ℕ) → IsKit kit → pair_of kit p p ≡ Some key → ⊥
own-none kit p key is = go (host_of kit p) refl
  where
    go : (o : Option Host) → host_of kit p ≡ o
        → option_and_then (λ h. option_map (λ pair. pair.1) (find (λ pair. pair.0 == p) h.pairs)) o ≡ Some key → ⊥
    go None found e = cc
    go (Some h) found e =
        let both = host_is kit p h is found in
        none-own h.pairs p (roster_of kit.keys) key
        (both.0.shared_with ∙ ap (λ q. others_than q (roster_of kit.keys)) both.1) e

-- whom it shares a key with is another
pub shares-with-others : (kit : Kit) (p q : ℕ) (key : List ℕ) → ∥ IsKit kit ∥₁ → pair_of kit p q ≡ Some key → q ≢ p
shares-with-others kit p q key real shared =
    ∥∥₁_elim real (hlevel props) (λ is same. own-none kit p key is (subst (λ r. pair_of kit p r ≡ Some key) same shared))
