use Rattle.std.proofs.Common.{◌≡◌, ◌<◌, ◌≤◌, arith}
use Rattle.member_events.specs.Kept.{signatures_left}
use Rattle.member_core.proofs.Handing.{skipped}
use Rattle.member_core.proofs.journalled.JournalledTally.skip_to.Goals as goal

pub invariant_of-self : goal.invariant_of-self
invariant_of-self c =
    let j = c.skipped.self in
    let since : j.before ≤ j.used = j.since in
    let left : j.used < c.args.to = c.skipped-test.true in
    let most : c.args.to ≤ c.args.self.now.total = c.requires.within in
    let same : j.total ≡ c.args.self.now.total = c.skipped.invariant.total in
    record {
      since = omega (arith, since);
      within = omega (arith, left, most, same);
      whole = j.whole;
      rest = skipped (signatures_left j.all) (signatures_left j.left)
          (signatures_left c.next-skipped.new.self) j.before j.used c.next-skipped.result j.since j.rest c.next-skipped.ensures.steps;
    }
