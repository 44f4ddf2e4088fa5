use Rattle.schedule_laws.proofs.Pieces.{reading_ignores_rest}
use Rattle.schedule_laws.proofs.reading_ignores_rest.Goals as goal

pub returns : goal.returns
returns c = reading_ignores_rest
