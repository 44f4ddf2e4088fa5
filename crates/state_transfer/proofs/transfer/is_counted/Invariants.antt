use Rattle.std.proofs.Common.{◌≡◌, drop}
use Rattle.std.specs.Prelude.{◌==◌}
use Rattle.std.specs.List.{list_any}
use Rattle.state_transfer.specs.Counted.{counted}
use Rattle.state_transfer.proofs.transfer.is_counted.Given as goal

-- it is among all exactly where it is among those that are left
abbrev pub invariant-counted : goal.invariant-counted
invariant-counted l = list_any (λ g. g.0 == l.signer) (counted (drop l.given-index l.counted))
    ≡ list_any (λ g. g.0 == l.signer) (counted l.counted)
