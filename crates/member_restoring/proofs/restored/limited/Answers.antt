use Rattle.member_restoring.proofs.Limited.{limited-so, real-limited}
use Rattle.member_restoring.proofs.restored.limited.Goals as goal

pub returns-clause-is : goal.returns-clause-is
returns-clause-is c s p is = limited-so c.args.batch_limit c.requires.some c.requires.few s p c.args.state is

pub returns-clause-real : goal.returns-clause-real
returns-clause-real c real = real-limited c.args.batch_limit c.requires.some c.requires.few c.args.state real
