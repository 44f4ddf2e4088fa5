-- A leaf's path leads to the root of its tree.
use Rattle.std.proofs.Common.{◌≡◌, ℕ, zero, suc, ◌+◌, ◌-◌, ◌*◌, ◌/◌, ◌%◌, ◌^◌, ◌<◌, ◌==◌, true, false, List, length, refl, sym, ap, ◌∙◌, arith, add-one, ⊎_elim}
use Rattle.std.proofs.Common.{◌≢◌}
use Rattle.std.proofs.lemmas.Bool.{cases_Bool, eqb-true, eqb-false}
use Rattle.std.proofs.Math.Nat.{div-one}
use Rattle.std.proofs.lemmas.Nat.{shr-shr}
use Rattle.sha2.proofs.Facts256.{length-sha256}
use Rattle.signature_defs.specs.declared.OtsType.{OtsType}
use Rattle.signature_defs.specs.Lms.{climbed, inner, leaf, node, parent, sibling}
use Rattle.signature_defs.specs.LmOts.{ots_public_key}

pub length-node : (kind : OtsType) (h : ℕ) (id seed : List ℕ) (k r : ℕ) → length (node kind h id seed k r) ≡ 32
unfolding node
length-node kind h id seed zero r = length-sha256 _
length-node kind h id seed (suc k) r = length-sha256 _

pub leaf_node : (kind : OtsType) (h : ℕ) (id seed : List ℕ) (r : ℕ)
    → leaf id r (ots_public_key kind id (r - 2 ^ h) seed) ≡ node kind h id seed 0 r
unfolding node
leaf_node kind h id seed r = refl

pub inner_node : (kind : OtsType) (h : ℕ) (id seed : List ℕ) (k r : ℕ)
    → inner id r (node kind h id seed k (2 * r)) (node kind h id seed k (2 * r + 1)) ≡ node kind h id seed (suc k) r
unfolding node
inner_node kind h id seed k r = refl

-- an ancestor's number, halved, is the next one's
pub halved_again : (r i : ℕ) → r / 2 ^ i / 2 ≡ r / 2 ^ (i + 1)
halved_again r i = shr-shr r i 1

pub climbed_none : (id : List ℕ) (r : ℕ) (value : List ℕ) (path : ℕ → List ℕ) → climbed id r value path 0 ≡ value
unfolding climbed
climbed_none id r value path = refl

pub climbed_more : (id : List ℕ) (r : ℕ) (value : List ℕ) (path : ℕ → List ℕ) (i : ℕ)
    → parent id (r / 2 ^ i) (climbed id r value path i) (path i) ≡ climbed id r value path (i + 1)
unfolding climbed
climbed_more id r value path i = rw (add-one i) refl

-- one level up, from a node and its sibling
parent-node : (kind : OtsType) (h : ℕ) (id seed : List ℕ) (k r : ℕ)
    → parent id r (node kind h id seed k r) (node kind h id seed k (sibling r)) ≡ node kind h id seed (suc k) (r / 2)
unfolding node
parent-node kind h id seed k r = ⊎_elim left right (cases_Bool (r % 2 == 0))
  where
    left : (r % 2 == 0) ≡ true → parent id r (node kind h id seed k r) (node kind h id seed k (sibling r))
        ≡ node kind h id seed (suc k) (r / 2)
    left e =
        let even : r % 2 ≡ 0 = eqb-true (r % 2) 0 e in
        let two : 2 * (r / 2) ≡ r = omega arith in
        rw (e, two) refl

    right : (r % 2 == 0) ≡ false → parent id r (node kind h id seed k r) (node kind h id seed k (sibling r))
        ≡ node kind h id seed (suc k) (r / 2)
    right e =
        let odd : r % 2 ≢ 0 = eqb-false (r % 2) 0 e in
        let two : 2 * (r / 2) ≡ r - 1 = omega arith in
        let back : r - 1 + 1 ≡ r = omega arith in
        rw (e, two, back) refl

-- a path of the siblings of a leaf's ancestors leads up from ancestor to ancestor
pub climbs : (kind : OtsType) (h : ℕ) (id seed : List ℕ) (r : ℕ) (path : ℕ → List ℕ) (i : ℕ)
    → ((j : ℕ) → j < i → path j ≡ node kind h id seed j (sibling (r / 2 ^ j)))
    → climbed id r (node kind h id seed 0 r) path i ≡ node kind h id seed i (r / 2 ^ i)
unfolding climbed
climbs kind h id seed r path zero each = ap (node kind h id seed 0) (sym (div-one r))
climbs kind h id seed r path (suc i) each =
    let up : r / 2 ^ i / 2 ≡ r / 2 ^ suc i = halved_again r i ∙ ap (λ k. r / 2 ^ k) (add-one i) in
    rw (climbs kind h id seed r path i (λ j lt. each j (omega arith)), each i (omega arith), ← up)
    (parent-node kind h id seed i (r / 2 ^ i))
