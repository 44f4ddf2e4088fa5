use Rattle.std.proofs.Common.{◌≡◌, length}
use Rattle.std.specs.Vec.Iter.{into_iter_items}
use Rattle.schedule_file.specs.Views as views
use Rattle.replay_cast.proofs.Casting.{Underway}
use Rattle.replay_cast.proofs.cast.Cast.add_all.Given as goal

abbrev pub invariant-processes : goal.invariant-processes
invariant-processes l = record {
  on : Underway (views.header l.header) l.self (into_iter_items l.left);
  group : l.self.group ≡ l.initial.self.group;
  scheme : l.self.scheme ≡ l.initial.self.scheme;
  roster : l.self.roster ≡ l.initial.self.roster;
}

abbrev pub decreases-processes : goal.decreases-processes
decreases-processes l = length (into_iter_items l.left)
