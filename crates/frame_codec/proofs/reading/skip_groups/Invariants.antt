use Rattle.std.proofs.Common.{◌≡◌, ◌-◌}
use Rattle.message_defs.specs.Frames.{groups_at}
use Rattle.byte_defs.specs.Reads.{rest_of}
use Rattle.frame_codec.proofs.reading.skip_groups.Given as goal

abbrev pub invariant-loop : goal.invariant-loop
invariant-loop l = rest_of (groups_at (l.count - l.counter) l.rest) ≡ rest_of (groups_at l.count l.bytes)
