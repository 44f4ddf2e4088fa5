use Rattle.std.proofs.Common.{◌≡◌, drop}
use Rattle.store_giving.proofs.Carried.{carried}
use Rattle.store_giving.proofs.stores.carried_out.Given as goal

-- the messages that are left lead to what all of them do
abbrev pub invariant-messages : goal.invariant-messages
invariant-messages l = carried l.store (drop l.message-index l.delivered) ≡ carried l.fn.store l.delivered
