use Rattle.std.proofs.Common.{◌≡◌, ◌-◌, ◌++◌, map}
use Rattle.replay_defs.specs.Generator.{rounds}
use Rattle.schedule_file.specs.Views.{event}
use Rattle.schedule_making.proofs.making.all_rounds.Given as goal

abbrev pub invariant-rounds : goal.invariant-rounds
invariant-rounds l = map event l.making.events.items ++ rounds (1000 - l.i) l.i l.making.draws.state ≡ rounds 1000 0 l.fn.number
