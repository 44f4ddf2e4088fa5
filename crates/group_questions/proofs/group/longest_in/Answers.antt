use Rattle.std.proofs.Common.{List, map, sym, ap, ◌∙◌, arith}
use Rattle.std.proofs.lemmas.List.{take_all}
use Rattle.group_defs.specs.Accounts.{longest, delivered_in}
use Rattle.accounts.specs.declared.account.Account.{Account}
use Rattle.accounts.specs.Views.{account, delivery}
use Rattle.group_questions.proofs.Longest.{longest-next, longer, longer-map}
use Rattle.group_questions.proofs.group.longest_in.Goals as goal

pub loop-a-preserved : goal.loop-a-preserved
loop-a-preserved c =
    longest-next (λ (a : Account). delivered_in (account a) c.args.x) c.args.accounts.now c.loop-a.a-index c.a-item.result
    (map delivery c.loop-a.longest.now) (map delivery c.longer-longest.result.now)
    c.loop-a-test.true c.a-item.is c.loop-a.invariant
    (ap (map delivery) c.longer-longest.ensures ∙ sym (longer-map delivery c.loop-a.longest.now c.delivered_in.result.now) ∙ ap
    (longer (map delivery c.loop-a.longest.now)) c.delivered_in.ensures)

pub returns : goal.returns
returns c =
    c.loop-a.invariant
    ∙ ap (λ (seen : List Account). longest (map (λ a. delivered_in (account a) c.args.x) seen))
    (take_all c.loop-a.a-index c.args.accounts.now (omega arith))
