use Rattle.signature_defs.proofs.HssLaws as laws
use Rattle.lms_hss.proofs.leaf_signs_one_text.Goals as goal

pub returns : goal.returns
returns c = laws.leaf_signs_one_text
