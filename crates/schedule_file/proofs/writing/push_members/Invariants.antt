use Rattle.std.proofs.Common.{◌≡◌, ◌++◌, take}
use Rattle.schedule_file.proofs.writing.push_members.Given as goal

abbrev pub invariant-loop-member : goal.invariant-loop-member
invariant-loop-member l = l.out.items ≡ l.initial.out.items ++ take l.member-index l.members
