use Rattle.std.proofs.Common.{◌∙◌, ap}
use Rattle.std.proofs.Math.Logic.{∥∥₁_elim}
use Rattle.std.proofs.Props.{props}
use Rattle.message_defs.specs.Packing.{Signed}
use Rattle.member_signing.proofs.Owned.{claim-is}
use Rattle.member_signing.proofs.putting.read_own.Goals as goal

pub unreachable-requires : goal.unreachable-requires
unreachable-requires c =
    ∥∥₁_elim c.requires.claim (hlevel props)
    (λ claim. let is = c.in_default.ensures.only claim.said.statement claim.range
    (c.bytes-bytes.ensures ∙ ap (λ (m : Signed). m.statement) claim.same) in cc)

pub returns-clause-only : goal.returns-clause-only
returns-clause-only c d range e =
    claim-is _ d (ap (λ (m : Signed). m.signer) e)
    (let said = c.in-Ok.ensures.only d.statement range (c.bytes-bytes.ensures ∙ ap (λ (m : Signed). m.statement) e) in cc)
    (c.bytes-signature.ensures ∙ ap (λ (m : Signed). m.signature) e)
