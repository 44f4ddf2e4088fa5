use Rattle.journal_defs.proofs.Crashing as laws
use Rattle.journal_defs.proofs.image_reads.Goals as goal

pub returns : goal.returns
returns c = laws.image_reads
