use Rattle.serve_laws.proofs.Served as laws
use Rattle.serve_laws.proofs.accepted_are_answers.Goals as goal

pub returns : goal.returns
returns c = laws.accepted_are_answers
