use Rattle.std.proofs.Common.{◌≡◌, [], length}
use Rattle.story_defs.specs.Lines.{members_behind}
use Rattle.story_lines.specs.Cursors.{left}
use Rattle.story_headers.proofs.headers.members.Given as goal

abbrev pub invariant-members : goal.invariant-members
invariant-members l = members_behind l.members.items (left l.words) ≡ members_behind [] (left l.fn.words)

abbrev pub decreases-members : goal.decreases-members
decreases-members l = length (left l.words)
