use Rattle.std.proofs.Common.{ap, sym, refl, subst}
use Rattle.byte_defs.specs.Fields.{◌>>=◌}
use Rattle.byte_defs.specs.Reads.{Gives}
use Rattle.stmt_codec.specs.Left.{claims_left}
use Rattle.claim_pool.specs.Settings.{as_setting}
use Rattle.chain_defs.specs.Advance.{advance, shows}
use Rattle.chain_check.proofs.chain.view_shown.Goals as goal

pub returns-in-Err : goal.returns-in-Err
unfolding advance
returns-in-Err g c = ap (λ r. r >>= shows (as_setting (g.V.Scheme.valid c.args.scheme.now) c.args.group.now c.args.roster.now) c.args.view.now) c.in-Err.ensures.exact

pub returns : goal.returns
unfolding advance
returns g c = subst (λ r. Gives (λ w. w) c.shown.result r)
    (sym (ap (λ r. r >>= shows (as_setting (g.V.Scheme.valid c.args.scheme.now) c.args.group.now c.args.roster.now) c.args.view.now) c.in-Ok.ensures.exact))
    (c.shown.ensures (as_setting (g.V.Scheme.valid c.args.scheme.now) c.args.group.now c.args.roster.now) (claims_left c.in-Ok.claims) c.processes.ensures.value c.in-Ok.ensures.range c.of-readies.ensures)
