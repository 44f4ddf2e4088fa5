use Rattle.signature_defs.proofs.HssLaws as laws
use Rattle.lms_hss.proofs.hss_signature_is_valid.Goals as goal

pub returns : goal.returns
returns c = laws.hss_signature_is_valid
