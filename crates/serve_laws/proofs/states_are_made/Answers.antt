use Rattle.serve_laws.proofs.Served as laws
use Rattle.serve_laws.proofs.states_are_made.Goals as goal

pub returns : goal.returns
returns c = laws.states_are_made
