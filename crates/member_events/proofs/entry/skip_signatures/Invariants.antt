use Rattle.std.proofs.Common.{◌≡◌, ◌-◌}
use Rattle.stmt_codec.specs.Below.{rest_of}
use Rattle.message_defs.specs.Entries.{all_kept_at}
use Rattle.member_events.proofs.entry.skip_signatures.Given as goal

abbrev pub invariant-loop : goal.invariant-loop
invariant-loop l = rest_of (all_kept_at (l.count - l.counter) l.rest) ≡ rest_of (all_kept_at l.count l.bytes)
