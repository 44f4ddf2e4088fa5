use Rattle.std.proofs.Common.{◌≡◌, true, sym, subst}
use Rattle.message_defs.specs.Statements.{Statement, view_of}
use Rattle.group_defs.specs.Due.{may_sign}
use Rattle.group_defs.specs.Signing.{signs}
use Rattle.stmt_codec.specs.Views.{stmt}
use Rattle.member_state.specs.Below.{IsIn, Phase}
use Rattle.member_signing.specs.Signed.{IsUndecided}
use Rattle.member_signing.proofs.Open.{end-reported, not-end, other-stays}
use Rattle.member_signing.proofs.putting.close.Goals as goal

pub closed-requires : goal.closed-requires
closed-requires c = subst IsUndecided (sym c.take.ensures) c.requires

pub returns-in_default-clause-closes : goal.returns-in_default-clause-closes
returns-in_default-clause-closes c s signer p may is = other-stays c.args.phase.now s signer p
    (stmt c.args.statement.now) c.requires (not-end (stmt c.args.statement.now) c.in_default.ensures) is

pub returns-clause-closes : goal.returns-clause-closes
returns-clause-closes c s signer p may is =
    let reported = end-reported (stmt c.args.statement.now) c.in-Some.length c.in-Some.ensures in
    let may' = subst (λ (st : Statement). may_sign s p st ≡ true) reported may in
    let phase : Phase = c.closed.result in
    let before = subst (λ (was : Phase). IsIn was p) (sym c.take.ensures) is in
    subst (λ (st : Statement). IsIn phase (signs s signer p st)) (sym reported)
    (c.closed.ensures.closes s signer p (view_of (stmt c.args.statement.now)) may' before)
