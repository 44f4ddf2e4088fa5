-- All nodes of a tree, by their numbers.
use Rattle.std.specs.Prelude.{◌≡◌, ℕ, suc, ◌+◌, ◌*◌, ◌^◌, ◌<◌, ◌≤◌, ◌⊎◌, List, [], length, slice_index_or}
use Rattle.signature_defs.specs.declared.OtsType.{OtsType}
use Rattle.signature_defs.specs.Lms.{node}

-- the nodes from number `from` on are at their numbers; those of depth d are numbered from 2^d, and lie h - d levels up
abbrev pub HoldsFrom : ℕ → OtsType → ℕ → List ℕ → List ℕ → List (List ℕ) → Type 0
HoldsFrom from kind h id seed nodes =
    (d k r : ℕ) → d + k ≡ h → from ≤ r → 2 ^ d ≤ r → r < 2 ^ suc d → slice_index_or nodes r [] ≡ node kind h id seed k r

-- all nodes, from the root on, which is node 1
pub record IsTree (kind : OtsType) (h : ℕ) (id seed : List ℕ) (nodes : List (List ℕ)) : Type 0 where
  pub count : length nodes ≡ 2 * 2 ^ h
  pub holds : HoldsFrom 1 kind h id seed nodes

-- a tree of such a typecode is not built
abbrev pub IsTooTall : ℕ → Type 0
IsTooTall typecode = (typecode < 5) ⊎ (7 < typecode)
