use Rattle.serve_laws.proofs.Telling as laws
use Rattle.serve_laws.proofs.runs_tell.Goals as goal

pub returns : goal.returns
returns c = laws.runs_tell
