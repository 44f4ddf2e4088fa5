use Rattle.std.proofs.Common.{◌≡◌, drop}
use Rattle.image_parts.specs.Walks.{with_all_said}
use Rattle.image_parts.proofs.claims.put_all_said.Given as goal

abbrev pub invariant-loop-kept : goal.invariant-loop-kept
invariant-loop-kept l = with_all_said l.number l.said.claims (drop l.kept-index l.signed) ≡ with_all_said l.number l.fn.said.claims l.signed
