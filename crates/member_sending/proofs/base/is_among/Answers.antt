use Rattle.std.proofs.Common.{sym, ◌∙◌}
use Rattle.group_defs.specs.Process as defs
use Rattle.group_defs.specs.Due.{same_message}
use Rattle.member_events.specs.Below.{message}
use Rattle.accounts.specs.Views.{delivery}
use Rattle.sent_claims.proofs.Walks.{any-passed, any-found}
use Rattle.member_sending.proofs.base.is_among.Goals as goal

pub delivered-preserved : goal.delivered-preserved
delivered-preserved c =
    c.delivered.invariant ∙ any-passed delivery
    (λ (d : defs.Delivered). same_message d.message
    (message c.args.sender c.args.number)) c.args.delivered.now c.delivered.one-index c.one-item.result c.delivered-test.true
    c.one-item.is (sym c.is_of.ensures ∙ c.if-is_of.false)

pub returns-then-is_of : goal.returns-then-is_of
returns-then-is_of c =
    sym (c.delivered.invariant ∙ any-found delivery
    (λ (d : defs.Delivered). same_message d.message
    (message c.args.sender c.args.number)) c.args.delivered.now c.delivered.one-index c.one-item.result c.delivered-test.true
    c.one-item.is (sym c.is_of.ensures ∙ c.if-is_of.true))
