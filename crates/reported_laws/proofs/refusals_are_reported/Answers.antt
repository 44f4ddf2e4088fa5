use Rattle.replay_defs.specs.Worlds.{start_of}
use Rattle.reported_laws.proofs.Refusing.{run_tell}
use Rattle.reported_laws.proofs.refusals_are_reported.Goals as goal

pub returns : goal.returns
returns c = λ sch w is. run_tell sch.header sch.events (start_of sch.header) w is
