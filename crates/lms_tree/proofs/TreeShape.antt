-- A list of nodes that is filled from the leaves to the root.
use Rattle.std.proofs.Common.{◌≡◌, ◌≢◌, ℕ, zero, suc, ◌+◌, ◌*◌, ◌^◌, ◌<◌, ◌≤◌, List, [], length, get_or, set, get_or-set_same, get_or-set_other, refl, sym, ap, ◌∙◌, arith, ⊎_elim}
use Rattle.std.proofs.lemmas.Bool.{cases_eq}
use Rattle.std.proofs.Math.Nat.{pow-le-pow_right, pow-suc}
use Rattle.signature_defs.specs.declared.OtsType.{OtsType}
use Rattle.signature_defs.specs.Lms.{inner, node}
use Rattle.signature_defs.proofs.TreeLaws.{inner_node}
use Rattle.lms_tree.specs.Tree.{HoldsFrom, IsTree}

-- one node more, at the end of those that stand
pub one_more : (nodes : List (List ℕ)) (from at : ℕ) (v : List ℕ) (f : ℕ → List ℕ) → at < length nodes → v ≡ f at
    → ((r : ℕ) → from ≤ r → r < at → get_or nodes r [] ≡ f r)
    → (r : ℕ) → from ≤ r → r < at + 1 → get_or (set nodes at v) r [] ≡ f r
one_more nodes from at v f within is before r le lt = ⊎_elim same other (cases_eq r at)
  where
    same : r ≡ at → get_or (set nodes at v) r [] ≡ f r
    same e = rw (e, get_or-set_same nodes at v [] within) is

    other : (r ≡ at → ⊥) → get_or (set nodes at v) r [] ≡ f r
    other ne = get_or-set_other nodes at r v [] ne ∙ before r le (omega arith)

-- a node that is a leaf's stands no levels up
at_bottom : (d k h r : ℕ) → d + k ≡ h → 2 ^ h ≤ r → r < 2 ^ suc d → k ≡ 0
at_bottom d zero h r e low high = refl
at_bottom d (suc k) h r e low high =
    let below : suc d ≤ h = omega arith in
    absurd (omega (arith, pow-le-pow_right {n = 2} (omega arith) below))

pub leaves_hold : (kind : OtsType) (h : ℕ) (id seed : List ℕ) (nodes : List (List ℕ))
    → ((r : ℕ) → 2 ^ h ≤ r → r < 2 ^ h + 2 ^ h → get_or nodes r [] ≡ node kind h id seed 0 r)
    → HoldsFrom (2 ^ h) kind h id seed nodes
leaves_hold kind h id seed nodes each d k r e low from high =
    let bottom : k ≡ 0 = at_bottom d k h r e low high in
    let depth : d ≡ h = omega arith in
    let within : r < 2 ^ h * 2 = rw (depth, pow-suc) at high in
    rw bottom (each r low (omega arith))

-- a node is made of its children, which stand already
over_children : (kind : OtsType) (h : ℕ) (id seed : List ℕ) (nodes : List (List ℕ)) (r d k : ℕ)
    → 1 ≤ r → r < 2 ^ h → d + k ≡ h → 2 ^ d ≤ r → r < 2 ^ suc d → HoldsFrom (r + 1) kind h id seed nodes
    → inner id r (get_or nodes (2 * r) []) (get_or nodes (2 * r + 1) []) ≡ node kind h id seed k r
over_children kind h id seed nodes r d zero pos top e low high holds =
    let depth : d ≡ h = omega arith in
    let below : 2 ^ h ≤ r = rw depth at low in
    absurd (omega arith)
over_children kind h id seed nodes r d (suc k) pos top e low high holds =
    let one = pow-suc 2 d in
    let two = pow-suc 2 (suc d) in
    let left = holds (suc d) k (2 * r) (omega arith) (omega arith) (omega (arith, one)) (omega (arith, one, two)) in
    let right = holds (suc d) k (2 * r + 1) (omega arith) (omega arith) (omega (arith, one)) (omega (arith, one, two)) in
    rw (left, right) (inner_node kind h id seed k r)

pub inner_holds : (kind : OtsType) (h : ℕ) (id seed : List ℕ) (nodes : List (List ℕ)) (r : ℕ) (v : List ℕ)
    → r < length nodes → 1 ≤ r → r < 2 ^ h → v ≡ inner id r (get_or nodes (2 * r) []) (get_or nodes (2 * r + 1) [])
    → HoldsFrom (r + 1) kind h id seed nodes → HoldsFrom r kind h id seed (set nodes r v)
inner_holds kind h id seed nodes r v within pos top is holds d k n e from low high = ⊎_elim same other (cases_eq n r)
  where
    same : n ≡ r → get_or (set nodes r v) n [] ≡ node kind h id seed k n
    same here =
        rw (here, get_or-set_same nodes r v [] within)
        (is ∙ over_children kind h id seed nodes r d k pos top e (rw here at low) (rw here at high) holds)

    other : (n ≡ r → ⊥) → get_or (set nodes r v) n [] ≡ node kind h id seed k n
    other ne = get_or-set_other nodes r n v [] ne ∙ holds d k n e (omega arith) low high
