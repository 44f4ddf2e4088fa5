use Rattle.std.proofs.Common.{◌≡◌, ◌-◌, [], length}
use Rattle.byte_defs.specs.Members.{has}
use Rattle.replay_defs.specs.Reading.{members_at}
use Rattle.schedule_header.proofs.head.read_members.Given as goal

abbrev pub invariant-members : goal.invariant-members
invariant-members l = record {
  so_far : members_at (l.count - l.counter) (has l.listed) l.members.items l.reader.rest.now
      ≡ members_at l.count (has l.listed) [] l.fn.reader.rest.now;
  size : length l.members.items ≡ l.counter;
}
