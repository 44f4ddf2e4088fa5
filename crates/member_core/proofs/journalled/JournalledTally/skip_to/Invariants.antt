use Rattle.std.proofs.Common.{◌≡◌, ◌-◌, ◌≤◌}
use Rattle.member_core.specs.Journalled.{handed_out}
use Rattle.member_core.proofs.journalled.JournalledTally.skip_to.Given as goal

abbrev pub invariant-skipped : goal.invariant-skipped
invariant-skipped l = record {
  hands : handed_out l.self ≡ handed_out l.initial.self;
  total : l.self.total ≡ l.initial.self.total;
  upto : l.self.used ≤ l.to;
}

abbrev pub decreases-skipped : goal.decreases-skipped
decreases-skipped l = l.to - l.self.used
