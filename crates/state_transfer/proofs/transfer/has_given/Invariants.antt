use Rattle.std.proofs.Common.{◌≡◌, drop}
use Rattle.std.specs.Prelude.{◌==◌, ◌&&◌}
use Rattle.std.specs.List.{list_any}
use Rattle.byte_defs.specs.Equality.{same_bytes}
use Rattle.state_transfer.specs.Counted.{counted}
use Rattle.state_transfer.proofs.transfer.has_given.Given as goal

-- it is among all exactly where it is among those that are left
abbrev pub invariant-counted : goal.invariant-counted
invariant-counted l = list_any (λ g. (g.0 == l.signer) && same_bytes l.state g.1) (counted (drop l.given-index l.counted))
    ≡ list_any (λ g. (g.0 == l.signer) && same_bytes l.state g.1) (counted l.counted)
