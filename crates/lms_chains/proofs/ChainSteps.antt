-- A chain that takes part in some of the steps.
use Rattle.std.proofs.Common.{◌≡◌, ℕ, ◌+◌, ◌-◌, ◌<◌, ◌≤◌, List, ◌++◌, min, refl, arith}
use Rattle.sha2.specs.Sha256.{sha256}
use Rattle.signature_defs.specs.Strings.{u8str}
use Rattle.signature_defs.specs.LmOts.{chain}
use Rattle.signature_defs.proofs.ChainLaws.{chain_more}

module _ (head start : List ℕ) (from to j : ℕ) where
  pub step_on : (value next : List ℕ) → from ≤ j → j < to → value ≡ chain head from (min j to - from) start
      → next ≡ sha256 (head ++ u8str j ++ value) → next ≡ chain head from (min (j + 1) to - from) start
  step_on value next le lt before e =
      let now : min j to - from ≡ j - from = omega arith in
      let then : min (j + 1) to - from ≡ j + 1 - from = omega arith in
      rw (e, before, now, then) (chain_more head start from j le)

  pub step_before : (value next : List ℕ) → j < from → from ≤ to → value ≡ chain head from (min j to - from) start
      → next ≡ value → next ≡ chain head from (min (j + 1) to - from) start
  step_before value next lt le before e =
      let same : min (j + 1) to - from ≡ min j to - from = omega arith in
      rw (e, same) before

  pub step_after : (value next : List ℕ) → to ≤ j → value ≡ chain head from (min j to - from) start
      → next ≡ value → next ≡ chain head from (min (j + 1) to - from) start
  step_after value next le before e =
      let same : min (j + 1) to - from ≡ min j to - from = omega arith in
      rw (e, same) before

-- one step
pub one_step : (head start : List ℕ) (j : ℕ) → sha256 (head ++ u8str j ++ start) ≡ chain head j 1 start
unfolding chain
one_step head start j = let at : j + 0 ≡ j = omega arith in rw at refl
