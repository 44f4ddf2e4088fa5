use Rattle.std.proofs.Common.{◌≡◌, ◌*◌, map, take}
use Rattle.std.specs.List.{flat_map}
use Rattle.message_defs.specs.Spelling.{message_bytes}
use Rattle.statements.specs.Batches.{message_of}
use Rattle.statements.proofs.spelling.put_messages.Given as goal

abbrev pub invariant-messages : goal.invariant-messages
invariant-messages l = (l.end ≡ 3 * l.sender-index)
    × (take l.end l.out ≡ flat_map message_bytes (map message_of (take l.sender-index l.messages)))
