use Rattle.serve_laws.proofs.Served as laws
use Rattle.serve_laws.proofs.runs_are_served.Goals as goal

pub returns : goal.returns
returns c = laws.runs_are_served
