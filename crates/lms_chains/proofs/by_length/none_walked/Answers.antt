use Rattle.std.proofs.Common.{false}
use Rattle.std.proofs.lemmas.Simd.{get_or-replicate}
use Rattle.lms_chains.proofs.by_length.none_walked.Goals as goal

pub returns : goal.returns
returns c i low = get_or-replicate 265 i false false low
