use Rattle.std.proofs.Common.{◌≡◌, None, drop}
use Rattle.member_events.specs.Below.{report}
use Rattle.restored_place.specs.Walks.{readies}
use Rattle.restored_place.proofs.said.highest_ready.Given as goal

abbrev pub invariant-loop-kept : goal.invariant-loop-kept
invariant-loop-kept l = readies l.number (report l.ready) (drop l.kept-index l.signed) ≡ readies l.number None l.signed
