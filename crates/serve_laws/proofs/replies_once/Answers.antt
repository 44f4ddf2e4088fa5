use Rattle.serve_laws.proofs.Served as laws
use Rattle.serve_laws.proofs.replies_once.Goals as goal

pub returns : goal.returns
returns c = laws.replies_once
