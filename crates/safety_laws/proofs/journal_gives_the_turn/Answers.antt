use Rattle.safety_laws.proofs.Journalled.{journal_gives_the_turn}
use Rattle.safety_laws.proofs.journal_gives_the_turn.Goals as goal

pub returns : goal.returns
returns c = journal_gives_the_turn
