use Rattle.std.proofs.Common.{◌∙◌, arith}
use Rattle.stmt_codec.proofs.Looking.{signer_passes, signer_refused, no_signer_left}
use Rattle.stmt_codec.proofs.claims.check_signers.Goals as goal

pub returns-then-signer-gt63 : goal.returns-then-signer-gt63
returns-then-signer-gt63 c = λ st. c.signatures.invariant st ∙ signer_refused st _ _ _ c.in-Some.ensures.steps (omega arith)

pub signatures-preserved : goal.signatures-preserved
signatures-preserved c = λ st. c.signatures.invariant st ∙ signer_passes st _ _ _ c.in-Some.ensures.steps (omega arith)

pub returns : goal.returns
returns c = λ st. c.signatures.invariant st ∙ no_signer_left st _ c.in_default.ensures.steps.0
