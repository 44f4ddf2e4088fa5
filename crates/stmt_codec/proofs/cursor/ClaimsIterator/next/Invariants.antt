use Rattle.std.proofs.Common.{◌≡◌, length}
use Rattle.stmt_codec.specs.Cursor.{all_left, groups_of}
use Rattle.stmt_codec.proofs.cursor.ClaimsIterator.next.Given as goal

abbrev pub invariant-groups : goal.invariant-groups
invariant-groups l = all_left l.fn.self.carrier l.fn.self.begun l.fn.self.groups ≡ all_left l.self.carrier l.self.begun l.self.groups

abbrev pub decreases-groups : goal.decreases-groups
decreases-groups l = length (groups_of l.self.groups)
