use Rattle.signature_defs.proofs.OtsLaws as laws
use Rattle.lms_ots.proofs.candidate_is_key.Goals as goal

pub returns : goal.returns
returns c = laws.candidate_is_key
