use Rattle.std.proofs.lemmas.Simd.{get_or-replicate}
use Rattle.lms_chains.proofs.walks.same.Goals as goal

pub returns : goal.returns
returns c i low = get_or-replicate 265 i c.args.n 0 low
