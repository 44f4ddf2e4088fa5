use Rattle.std.proofs.Common.{◌∙◌}
use Rattle.audit_claims.proofs.signing.see_trimmed.Goals as goal

pub returns : goal.returns
returns c = record {
  seen = λ s before own d saw range e valid. c.in_ok-see_own.ensures.seen s before own d saw range (c.in_ok-own.ensures ∙ e) valid;
}
