use Rattle.conviction.proofs.Few.{passed-on}
use Rattle.conviction.proofs.reading.claims_said.Goals as goal

pub returns-clause-few : goal.returns-clause-few
returns-clause-few c = passed-on c.claims_of.result c.args.frame.now c.claims_of.ensures.exact c.own_are_few.ensures
