use Rattle.ending_rules.proofs.Asking.{in-range, none-there}
use Rattle.ending_rules.proofs.notifies.Perceived.is_empty.Goals as goal

pub returns-then-add-eq0-clause-none : goal.returns-then-add-eq0-clause-none
returns-then-add-eq0-clause-none c none =
    none-there c.args.self.now c.mask-remove.result c.mask-add.result c.mask-remove.ensures c.mask-add.ensures c.if-add-eq0.true.0
    c.if-add-eq0.true.1 none

pub returns-then-add-eq0-clause-range : goal.returns-then-add-eq0-clause-range
returns-then-add-eq0-clause-range c = in-range c.args.self.now c.mask-remove.result c.mask-add.result c.mask-remove.ensures
    c.mask-add.ensures

pub returns-else-add-eq0-clause-range : goal.returns-else-add-eq0-clause-range
returns-else-add-eq0-clause-range c = in-range c.args.self.now c.mask-remove.result c.mask-add.result c.mask-remove.ensures
    c.mask-add.ensures
