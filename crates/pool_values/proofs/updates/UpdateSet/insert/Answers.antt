use Rattle.pool_values.proofs.Inserted.{removed-there, added-there, removed-others, added-others}
use Rattle.pool_values.proofs.updates.UpdateSet.insert.Goals as goal

pub returns-in-Remove-clause-there : goal.returns-in-Remove-clause-there
returns-in-Remove-clause-there c = rw (c.insert.ensures, c.in-Remove.is) (removed-there c.args.self.now c.in-Remove.p)

pub returns-in-Remove-clause-others : goal.returns-in-Remove-clause-others
returns-in-Remove-clause-others c u other = rw c.insert.ensures
    (removed-others c.args.self.now c.in-Remove.p u (rw c.in-Remove.is at other))

pub returns-in-Add-clause-there : goal.returns-in-Add-clause-there
returns-in-Add-clause-there c = rw (c.insert-in-Add.ensures, c.in-Add.is) (added-there c.args.self.now c.in-Add.p)

pub returns-in-Add-clause-others : goal.returns-in-Add-clause-others
returns-in-Add-clause-others c u other = rw c.insert-in-Add.ensures (added-others c.args.self.now c.in-Add.p u (rw c.in-Add.is at other))
