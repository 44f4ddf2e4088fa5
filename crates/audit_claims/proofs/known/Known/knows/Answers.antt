use Rattle.std.proofs.Common.{sym, ◌∙◌}
use Rattle.stmt_codec.specs.Views.{claim as claim_of}
use Rattle.audit_claims.proofs.Asked.{known-claim, unknown-claim, unknown-head}
use Rattle.audit_claims.proofs.known.Known.knows.Goals as goal

pub returns-in_default : goal.returns-in_default
returns-in_default g c =
    unknown-head c.args.self.now.group.now c.args.self.now.roster.now c.args.self.now.firsts.now c.args.key.now c.args.body.now c.args.sig.now
    c.in_default.ensures.none

pub returns-in-Some-claim_in : goal.returns-in-Some-claim_in
returns-in-Some-claim_in g c =
    c.is_seen.ensures
    ∙ known-claim c.args.self.now.group.now c.args.self.now.roster.now c.args.self.now.firsts.now c.args.key.now c.args.body.now c.args.sig.now
    c.in-Some.said.now (claim_of c.in-Some-claim_in.claim) c.in-Some.ensures.after (sym c.in-Some-claim_in.ensures.said) c.in-Some.ensures.some
    c.in-Some-claim_in.ensures.spelled

pub returns-in-None : goal.returns-in-None
returns-in-None g c =
    unknown-claim c.args.self.now.group.now c.args.self.now.roster.now c.args.self.now.firsts.now c.args.key.now c.args.body.now c.args.sig.now
    c.in-Some.said.now c.in-Some.ensures.after (sym c.in-None.ensures.said)
