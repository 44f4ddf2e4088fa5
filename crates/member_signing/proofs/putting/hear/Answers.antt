use Rattle.std.proofs.Common.{◌∙◌, sym}
use Rattle.member_signing.proofs.putting.hear.Goals as goal

pub returns-clause-heard : goal.returns-clause-heard
returns-clause-heard c s signer p same own = c.hear_own.ensures.signs s signer p (same ∙ sym c.reserve.ensures.same) own
