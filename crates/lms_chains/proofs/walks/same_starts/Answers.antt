use Rattle.std.proofs.Common.{[]}
use Rattle.std.proofs.lemmas.Simd.{get_or-replicate}
use Rattle.lms_chains.proofs.walks.same_starts.Goals as goal

pub returns : goal.returns
returns c i low = get_or-replicate 265 i c.args.seed.now [] low
