use Rattle.std.proofs.Common.{◌≡◌, ◌-◌, length}
use Rattle.statements.specs.Raw.{in_range}
use Rattle.statements.proofs.Messages.{one_by_one, behind}
use Rattle.statements.proofs.reading.messages_within.Given as goal

abbrev pub invariant-messages : goal.invariant-messages
invariant-messages l = (length l.batch ≡ l.counter)
    × (in_range l.fn.count l.fn.bytes ≡ behind l.batch (one_by_one (l.fn.count - l.counter) l.rest))
