-- Candidates of an Ack, looked at one by one.
use Rattle.std.proofs.Common.{◌≡◌, ◌∙◌, ℕ, ◌+◌, ◌<◌, Some, None, Bool, true, false, ap, sym, arith}
use Rattle.std.specs.Prelude.{◌&&◌, IsFalse}
use Rattle.byte_defs.specs.Choices.{is_some_and}
use Rattle.message_defs.specs.Updates.{Value}
use Rattle.group_defs.specs.Process.{Setting, Pool}
use Rattle.group_defs.specs.Certified.{number_of_members}
use Rattle.group_defs.specs.Values.{is_justified}
use Rattle.pool_laws.specs.Least.{IsLeastFrom, IsLeastBelow}
use Rattle.rule_laws.specs.Ranks.{suggested}
use Rattle.rule_laws.proofs.Settled.{next_candidate}
use Rattle.own_place.specs.declared.own.Own.{Own}
use Rattle.rank_rules.specs.Open.{is_ack_open}

module _ (h : Pool) (own : Own) (s : Setting) (from : ℕ) where
  -- the value that is suggested at the rank is justified there
  abbrev pub more : ℕ → Bool
  more r = is_some_and (suggested h r) (is_justified s h r)

  -- no rank below passes both tests
  module _ (before : (j : ℕ) → j < from → IsFalse (is_ack_open h own j && more j)) where
    pub none-left : IsLeastFrom from (number_of_members h) (is_ack_open h own) None
        → IsLeastBelow (number_of_members h) (λ j. is_ack_open h own j && more j) None
    none-left least = next_candidate from (number_of_members h) (is_ack_open h own) more None before least

    module _ (rank : ℕ) (v : Value) (least : IsLeastFrom from (number_of_members h) (is_ack_open h own) (Some rank))
        (said : suggested h rank ≡ Some v) where
      more-is : (b : Bool) → b ≡ is_justified s h rank v → more rank ≡ b
      more-is b e = ap (λ o. is_some_and o (is_justified s h rank)) said ∙ sym e

      pub this-one : true ≡ is_justified s h rank v → IsLeastBelow (number_of_members h) (λ j. is_ack_open h own j && more j) (Some rank)
      this-one e = (next_candidate from (number_of_members h) (is_ack_open h own) more (Some rank) before least).0 (more-is true e)

      pub not-this : false ≡ is_justified s h rank v → (k : ℕ) → k < rank + 1 → IsFalse (is_ack_open h own k && more k)
      not-this e k lt = (next_candidate from (number_of_members h) (is_ack_open h own) more (Some rank) before least).1 (more-is false e) k
          (omega (arith, lt))
