use Rattle.std.proofs.lemmas.Grind.{merely}
use Rattle.hosted_core.proofs.hosted.Hosted.again.Goals as goal

pub returns-clause-real : goal.returns-clause-real
returns-clause-real g c s p core = merely (record { setting = s; process = p; core = core })
