use Rattle.std.proofs.Common.{◌≡◌, drop}
use Rattle.std.specs.Prelude.{find, ◌==◌}
use Rattle.claim_firsts.specs.Entries.{kept_claim}
use Rattle.claim_firsts.proofs.firsts.second_of.Given as goal

abbrev pub invariant-loop-second : goal.invariant-loop-second
invariant-loop-second l = find (λ x. (kept_claim x).signer == l.q) (drop l.second-index l.seconds)
    ≡ find (λ x. (kept_claim x).signer == l.q) l.seconds
