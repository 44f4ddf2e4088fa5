use Rattle.std.proofs.Common.{◌-◌, arith}
use Rattle.std.proofs.lemmas.List.{length-take}
use Rattle.replay_defs.specs.Schedules.{most_bytes}
use Rattle.schedule_pieces.proofs.reader.ScheduleReader.give.Goals as goal

pub overflow_add-self : goal.overflow_add-self
unfolding most_bytes
overflow_add-self c =
    let within = rw (← c.self.view_is) at c.requires.within in
    omega (arith, within, c.self.invariant.below, length-take (most_bytes - c.self.inside.taken) c.self.inside.window)
