use Rattle.std.proofs.Common.{◌≡◌, take}
use Rattle.accounts.proofs.copies.copy_payloads.Given as goal

abbrev pub invariant-loop-payload : goal.invariant-loop-payload
invariant-loop-payload l = l.copies.items ≡ take l.payload-index l.payloads
