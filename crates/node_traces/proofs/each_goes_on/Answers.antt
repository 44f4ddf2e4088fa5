use Rattle.node_traces.proofs.Joined.{each_goes_on}
use Rattle.node_traces.proofs.each_goes_on.Goals as goal

pub returns : goal.returns
returns c = each_goes_on
