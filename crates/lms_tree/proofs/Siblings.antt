-- Where the sibling of a leaf's ancestor stands.
use Rattle.std.proofs.Common.{◌≡◌, ◌≢◌, ℕ, zero, suc, ◌+◌, ◌-◌, ◌*◌, ◌/◌, ◌%◌, ◌^◌, ◌<◌, ◌≤◌, ◌==◌, true, false, refl, sym, ap, ◌∙◌, arith, ⊎_elim}
use Rattle.std.proofs.lemmas.Bool.{cases_Bool, eqb-true, eqb-false}
use Rattle.std.proofs.lemmas.Nat.{div_below, le-div, pow-add, pow_pos}
use Rattle.std.proofs.Math.Nat.{pow-suc, pow-le-pow_right}
use Rattle.std.proofs.Common.{List, [], get_or, length, lit<}
use Rattle.signature_defs.specs.declared.OtsType.{OtsType}
use Rattle.signature_defs.specs.Lms.{path_node, sibling}
use Rattle.lms_tree.specs.Tree.{IsTree}

-- a node of depth e + 1 and its sibling have one depth
beside : (e n : ℕ) → 2 ^ suc e ≤ n → n < 2 ^ suc (suc e) → (2 ^ suc e ≤ sibling n) × (sibling n < 2 ^ suc (suc e))
beside e n low high = ⊎_elim left right (cases_Bool (n % 2 == 0))
  where
    left : (n % 2 == 0) ≡ true → (2 ^ suc e ≤ sibling n) × (sibling n < 2 ^ suc (suc e))
    left t =
        let even : n % 2 ≡ 0 = eqb-true (n % 2) 0 t in
        let one = pow-suc 2 e in
        let two = pow-suc 2 (suc e) in
        rw t (omega arith, omega (arith, one, two))

    right : (n % 2 == 0) ≡ false → (2 ^ suc e ≤ sibling n) × (sibling n < 2 ^ suc (suc e))
    right t =
        let odd : n % 2 ≢ 0 = eqb-false (n % 2) 0 t in
        let one = pow-suc 2 e in
        rw t (omega (arith, one), omega arith)

-- the ancestor i levels up of leaf q, in a tree of height e + 1 + i
pub ancestor_beside : (e i q : ℕ) → q < 2 ^ (suc e + i)
    → (2 ^ suc e ≤ sibling ((2 ^ (suc e + i) + q) / 2 ^ i)) × (sibling ((2 ^ (suc e + i) + q) / 2 ^ i) < 2 ^ suc (suc e))
ancestor_beside e i q lt =
    let split = pow-add 2 (suc e) i in
    let some = pow_pos i in
    let high : 2 ^ (suc e + i) + q < 2 ^ suc (suc e) * 2 ^ i = rw pow-suc (omega (arith, split)) in
    let low : 2 ^ suc e * 2 ^ i ≤ 2 ^ (suc e + i) + q = omega (arith, split) in
    beside e ((2 ^ (suc e + i) + q) / 2 ^ i) (le-div (2 ^ suc e) (2 ^ (suc e + i) + q) (2 ^ i) some low)
    (div_below (2 ^ (suc e + i) + q) (2 ^ i) (2 ^ suc (suc e)) some high)

-- a tree holds the path of each leaf
pub path_stands : (kind : OtsType) (h : ℕ) (id seed : List ℕ) (nodes : List (List ℕ)) (q i : ℕ) → IsTree kind h id seed nodes → q < 2 ^ h
    → i < h
    → (sibling ((2 ^ h + q) / 2 ^ i) < length nodes) × (get_or nodes (sibling ((2 ^ h + q) / 2 ^ i)) [] ≡ path_node kind h id seed q i)
path_stands kind h id seed nodes q i tree lt below =
    let e : ℕ = h - i - 1 in
    let depth : suc e + i ≡ h = omega arith in
    let stands = rw depth at (ancestor_beside e i q (rw depth lt)) in
    let most : 2 ^ suc (suc e) ≤ 2 ^ suc h = pow-le-pow_right {n = 2} (lit< tt) (omega arith) in
    let double = pow-suc 2 h in (
      omega (arith, tree.count, most, double, stands.1),
      tree.holds (suc e) i (sibling ((2 ^ h + q) / 2 ^ i)) depth (omega (arith, pow_pos (suc e), stands.0)) stands.0 stands.1,
    )
