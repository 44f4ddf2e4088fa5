use Rattle.letter_laws.proofs.Keeping.{kept_is_in_range}
use Rattle.letter_laws.proofs.kept_is_in_range.Goals as goal

pub returns : goal.returns
returns c = kept_is_in_range
