use Rattle.std.proofs.Common.{◌≡◌, ◌++◌, List, length}
use Rattle.std.specs.List.{AllByRecursion}
use Rattle.message_defs.specs.Statements as plain
use Rattle.message_defs.specs.Spelling.{IsClaim}
use Rattle.stmt_codec.specs.Left.{claims_left}
use Rattle.claim_pool.specs.Settings.{as_setting}
use Rattle.chain_defs.specs.Advance.{counted}
use Rattle.chain_check.specs.Readies.{IsTable}
use Rattle.chain_check.proofs.readies.Readies.of.Given as goal

abbrev pub invariant-claims : goal.invariant-claims
invariant-claims g l =
    AllByRecursion IsClaim (claims_left l.left)
    × ((done : List plain.Claim) × (done ++ claims_left l.left ≡ claims_left l.fn.claims)
    × IsTable (counted (as_setting (g.V.Scheme.valid l.scheme) l.group l.roster) l.view done) l.readies.cells)

abbrev pub decreases-claims : goal.decreases-claims
decreases-claims g l = length (claims_left l.left)
