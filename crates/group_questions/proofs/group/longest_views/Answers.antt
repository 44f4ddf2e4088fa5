use Rattle.std.proofs.Common.{map, sym, ap, ◌∙◌, arith}
use Rattle.std.proofs.lemmas.List.{take_all}
use Rattle.group_defs.specs.Accounts.{longest}
use Rattle.accounts.specs.declared.account.Account.{Account}
use Rattle.std.proofs.Common.{List}
use Rattle.group_questions.proofs.Longest.{longest-next, longer, views-of_group}
use Rattle.group_questions.proofs.group.longest_views.Goals as goal

pub loop-a-preserved : goal.loop-a-preserved
loop-a-preserved c =
    longest-next (λ (a : Account). a.views.items) c.args.accounts.now c.loop-a.a-index c.a-item.result c.loop-a.longest.now
    c.longer-longest.result.now c.loop-a-test.true c.a-item.is c.loop-a.invariant
    (c.longer-longest.ensures ∙ ap (longer c.loop-a.longest.now) c.deref.ensures.value)

pub returns : goal.returns
returns c =
    c.loop-a.invariant
    ∙ ap (λ (seen : List Account). longest (map (λ a. a.views.items) seen)) (take_all c.loop-a.a-index c.args.accounts.now (omega arith))
    ∙ sym (views-of_group c.args.accounts.now)
