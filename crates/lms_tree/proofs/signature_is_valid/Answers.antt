use Rattle.signature_defs.proofs.LmsLaws as laws
use Rattle.lms_tree.proofs.signature_is_valid.Goals as goal

pub returns : goal.returns
returns c = laws.signature_is_valid
