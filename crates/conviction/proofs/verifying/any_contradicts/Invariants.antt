use Rattle.std.proofs.Common.{◌≡◌, false, take}
use Rattle.std.specs.Prelude.{◌&&◌}
use Rattle.std.specs.List.{list_any}
use Rattle.group_defs.specs.Hearing.{is_valid}
use Rattle.stmt_codec.specs.Views.{claim as claim_of}
use Rattle.claim_pool.specs.Settings.{as_setting}
use Rattle.conviction_defs.specs.Convictions.{is_conflict}
use Rattle.conviction.specs.Own.{all_kept}
use Rattle.conviction.proofs.verifying.any_contradicts.Given as goal

abbrev pub invariant-loop-own : goal.invariant-loop-own
invariant-loop-own g l = list_any
    (λ c. is_conflict (claim_of l.claim) c && is_valid (as_setting (g.V.Scheme.valid l.scheme) l.group l.roster) c)
    (all_kept (take l.own-index l.claims)) ≡ false
