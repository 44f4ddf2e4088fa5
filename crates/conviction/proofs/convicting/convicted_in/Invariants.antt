use Rattle.rp_base.specs.PidsLeft.{pids_left}
use Rattle.stmt_codec.specs.Left.{claims_left}
use Rattle.claim_pool.specs.Settings.{as_setting}
use Rattle.conviction_defs.specs.Convictions.{is_convicted}
use Rattle.conviction.proofs.Sought.{Sought}
use Rattle.conviction.proofs.convicting.convicted_in.Given as goal

abbrev pub invariant-loop-q : goal.invariant-loop-q
invariant-loop-q g l = Sought (is_convicted (as_setting (g.V.Scheme.valid l.scheme) l.group l.roster) (claims_left l.claims)) l.roster l.found
    (pids_left l.q-iterator)
