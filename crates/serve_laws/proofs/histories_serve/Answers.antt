use Rattle.serve_laws.proofs.Served as laws
use Rattle.serve_laws.proofs.histories_serve.Goals as goal

pub returns : goal.returns
returns c = laws.histories_serve
