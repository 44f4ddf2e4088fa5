use Rattle.opening_laws.proofs.EntriesRead.{one_more_counts as proved}
use Rattle.opening_laws.proofs.one_more_counts.Goals as goal

pub returns : goal.returns
returns c = proved
