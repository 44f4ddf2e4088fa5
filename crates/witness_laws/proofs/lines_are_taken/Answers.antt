use Rattle.witness_laws.proofs.Spelled.{lines_are_taken}
use Rattle.witness_laws.proofs.lines_are_taken.Goals as goal

pub returns : goal.returns
returns c = lines_are_taken
