use Rattle.std.proofs.Common.{◌≡◌, ◌≤◌, length, take}
use Rattle.message_defs.specs.Updates.{Remove}
use Rattle.group_defs.specs.Views.{members_after}
use Rattle.view_table.proofs.view.without.Given as goal

abbrev pub invariant-loop-member : goal.invariant-loop-member
invariant-loop-member l = record {
  so_far : l.left.items ≡ members_after (take l.member-index l.members) (Remove l.p);
  room : length l.left.items ≤ l.member-index;
}
