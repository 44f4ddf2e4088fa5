use Rattle.std.proofs.Common.{ap, ◌∙◌}
use Rattle.std.specs.Prelude.{fold, max}
use Rattle.std.proofs.lemmas.List.{take_all}
use Rattle.interop_pool.proofs.hearers.greatest.Goals as goal

pub returns : goal.returns
returns c = c.loop-count.invariant ∙ ap (fold max 0) (take_all c.loop-count.count-index c.args.counts.now c.loop-count-test.false)
