use Rattle.std.proofs.Common.{take}
use Rattle.claim_pool.specs.Settings.{as_setting}
use Rattle.conviction.specs.Own.{all_kept}
use Rattle.conviction.specs.Slots.{AreQuiet}
use Rattle.conviction.proofs.convicting.any_conflict.Given as goal

abbrev pub invariant-loop-place : goal.invariant-loop-place
invariant-loop-place g l = AreQuiet (as_setting (g.V.Scheme.valid l.scheme) l.group l.roster) (all_kept l.claims)
    (all_kept (take l.place l.claims))
