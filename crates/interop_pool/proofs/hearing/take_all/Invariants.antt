use Rattle.std.proofs.Common.{◌≡◌, ◌++◌, length}
use Rattle.std.specs.List.{AllByRecursion}
use Rattle.message_defs.specs.Spelling.{IsClaim}
use Rattle.group_defs.specs.Process.{Process}
use Rattle.group_defs.specs.Certified.{number_of_members}
use Rattle.group_defs.specs.Hearing.{hear_all}
use Rattle.stmt_codec.specs.Left.{claims_left}
use Rattle.own_place.specs.Owns.{HasDelivered}
use Rattle.interop_pool.specs.Hearers.{setting_with}
use Rattle.interop_pool.proofs.Heard.{reported}
use Rattle.interop_pool.proofs.hearing.take_all.Given as goal

abbrev pub invariant-claims : goal.invariant-claims
invariant-claims l = record {
  heard : (p : Process) → HasDelivered l.own p → p.pool ≡ l.fn.pool.pool → (q : Process) × HasDelivered l.own q × (q.pool ≡ l.pool.pool)
      × (l.out.items ++ reported (setting_with l.roster) q (claims_left l.left)
      ≡ l.fn.out.items ++ reported (setting_with l.roster) p (claims_left l.fn.claims))
      × (hear_all (setting_with l.roster) q (claims_left l.left) ≡ hear_all (setting_with l.roster) p (claims_left l.fn.claims));
  range : AllByRecursion IsClaim (claims_left l.left);
  members : length l.own.counts.items ≡ number_of_members l.pool.pool;
}

abbrev pub decreases-claims : goal.decreases-claims
decreases-claims l = length (claims_left l.left)
