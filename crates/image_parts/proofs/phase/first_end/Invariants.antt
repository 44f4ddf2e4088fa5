use Rattle.std.proofs.Common.{◌≡◌, drop}
use Rattle.image_parts.specs.Walks.{end_in}
use Rattle.image_parts.proofs.phase.first_end.Given as goal

abbrev pub invariant-loop-kept : goal.invariant-loop-kept
invariant-loop-kept l = end_in l.number (drop l.kept-index l.signed) ≡ end_in l.number l.signed
