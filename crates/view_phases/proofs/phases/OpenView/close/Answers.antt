use Rattle.view_phases.proofs.Closing as closing
use Rattle.view_phases.proofs.phases.OpenView.close.Goals as goal

pub returns-clause-closes : goal.returns-clause-closes
returns-clause-closes c s signer p was = record {
  phase = closing.closes s signer p c.args.length was;
  length = closing.own-now s signer p c.args.length was;
}
