use Rattle.std.proofs.Common.{◌≡◌, [], take}
use Rattle.stmt_codec.specs.Views.{claim as claim_of}
use Rattle.claim_pool.specs.Settings.{as_setting}
use Rattle.conviction.specs.Own.{all_kept}
use Rattle.conviction.specs.Slots.{valid_on}
use Rattle.conviction.proofs.verifying.slot_convicts.Given as goal

abbrev pub invariant-loop-place : goal.invariant-loop-place
invariant-loop-place g l = valid_on (as_setting (g.V.Scheme.valid l.scheme) l.group l.roster) (claim_of l.on)
    (all_kept (take l.place l.claims)) ≡ []
