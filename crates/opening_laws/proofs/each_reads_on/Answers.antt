use Rattle.opening_laws.proofs.EntriesRead.{each_reads_on as proved}
use Rattle.opening_laws.proofs.each_reads_on.Goals as goal

pub returns : goal.returns
returns c = proved
