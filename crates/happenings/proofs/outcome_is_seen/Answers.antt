use Rattle.happenings.proofs.Sightings.{outcome_is_seen}
use Rattle.happenings.proofs.outcome_is_seen.Goals as goal

pub returns : goal.returns
returns c = outcome_is_seen
