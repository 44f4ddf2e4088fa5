use Rattle.std.proofs.Common.{◌≡◌, ◌-◌}
use Rattle.message_defs.specs.Frames.{signatures_at}
use Rattle.byte_defs.specs.Reads.{rest_of}
use Rattle.frame_codec.proofs.reading.skip_signatures.Given as goal

abbrev pub invariant-loop : goal.invariant-loop
invariant-loop l = rest_of (signatures_at (l.count - l.counter) l.least l.rest) ≡ rest_of (signatures_at l.count 0 l.bytes)
