use Rattle.std.proofs.Common.{◌∙◌, ap}
use Rattle.std.specs.Prelude.{◌||◌}
use Rattle.byte_defs.specs.Members.{has}
use Rattle.member_events.specs.Below.{claims_left, claim as claim_of}
use Rattle.guard_service.specs.Evidence.{makes_one}
use Rattle.guard_service.proofs.Signing.{all-noted, one-noted}
use Rattle.guard_service.proofs.signers.signers_among.Goals as goal

pub claims-init : goal.claims-init
claims-init c = λ q. ap (λ ps. has ps q || makes_one (claims_left c.args.claims) q) c.new-signers.ensures

pub claims-preserved : goal.claims-preserved
claims-preserved c = λ q.
    one-noted c.claims.signers c.insert.new.self (claim_of c.in-Some.claim) (claims_left c.claims.left) (claims_left c.next.new.self) q
    c.insert.ensures c.in-Some.ensures.steps
    ∙ c.claims.invariant q

pub returns : goal.returns
returns c = λ q.
    all-noted c.claims.signers (claims_left c.claims.left) q c.in_default.ensures.steps.0
    ∙ c.claims.invariant q
