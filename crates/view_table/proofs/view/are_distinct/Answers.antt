use Rattle.std.proofs.Common.{refl}
use Rattle.view_table.proofs.Distinct.{one_more, all_of}
use Rattle.view_table.proofs.view.are_distinct.Goals as goal

pub loop-i-preserved : goal.loop-i-preserved
loop-i-preserved c =
    one_more c.args.members.now c.loop-i.i c.index-members-i.result c.loop-i-test.true c.index-members-i.is c.loop-i.invariant
    c.if-contains.ensures.cases

pub returns : goal.returns
returns c = (λ _. all_of c.args.members.now c.loop-i.i c.loop-i-test.false c.loop-i.invariant, λ _. refl)
