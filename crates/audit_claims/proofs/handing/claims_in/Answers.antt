use Rattle.std.proofs.Common.{◌≡◌}
use Rattle.frame_codec.specs.Views.{frame_view}
use Rattle.stmt_codec.specs.Left.{claims_left}
use Rattle.audit_claims.proofs.Frames.{claims-so, no-claims, no-frame}
use Rattle.audit_claims.proofs.handing.claims_in.Goals as goal

pub returns-in_default-clause-none : goal.returns-in_default-clause-none
returns-in_default-clause-none c = no-frame c.args.bytes.now c.in_default.field-0 c.in_default.ensures.exact

pub returns-in-Ok-claims_of-clause-said : goal.returns-in-Ok-claims_of-clause-said
returns-in-Ok-claims_of-clause-said c =
    claims-so c.args.bytes.now (frame_view c.in-Ok.frame) (claims_left c.in-Ok-claims_of.claims) c.in-Ok.ensures.exact
    c.in-Ok-claims_of.ensures.exact

pub returns-in-Err-clause-none : goal.returns-in-Err-clause-none
returns-in-Err-clause-none c =
    no-claims c.args.bytes.now (frame_view c.in-Ok.frame) c.in-Err.field-0 c.in-Ok.ensures.exact c.in-Err.ensures.exact
