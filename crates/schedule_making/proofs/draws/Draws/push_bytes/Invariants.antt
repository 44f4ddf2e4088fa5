use Rattle.std.proofs.Common.{◌≡◌, ◌-◌}
use Rattle.replay_defs.specs.Generator.{bytes_drawn}
use Rattle.schedule_making.proofs.Drawing.{onto}
use Rattle.schedule_making.proofs.draws.Draws.push_bytes.Given as goal

abbrev pub invariant-bytes : goal.invariant-bytes
invariant-bytes l = onto l.out.items (bytes_drawn (l.count - l.counter) l.self.state)
    ≡ onto l.fn.out.items (bytes_drawn l.count l.fn.self.state)
