use Rattle.std.proofs.Common.{◌∙◌, ap, sym}
use Rattle.stmt_codec.specs.Cursor.{given}
use Rattle.claim_pool.specs.Settings.{as_setting}
use Rattle.conviction_defs.specs.Convictions.{is_convicted}
use Rattle.conviction.proofs.convicting.convicts.Goals as goal

pub is_convicted_by-requires-clause-few : goal.is_convicted_by-requires-clause-few
is_convicted_by-requires-clause-few g c = c.in-Ok.ensures.few c.args.q

pub is_convicted_by-requires-clause-range : goal.is_convicted_by-requires-clause-range
is_convicted_by-requires-clause-range g c = c.in-Ok.ensures.range

pub returns-in-Ok : goal.returns-in-Ok
returns-in-Ok g c =
    let s = as_setting (g.V.Scheme.valid c.args.scheme.now) c.args.group.now c.args.roster.now in
    c.is_convicted_by.ensures ∙ ap (λ read. is_convicted s (given read) c.args.q) (sym c.in-Ok.ensures.exact)

pub returns-in-Err : goal.returns-in-Err
returns-in-Err g c =
    let s = as_setting (g.V.Scheme.valid c.args.scheme.now) c.args.group.now c.args.roster.now in
    ap (λ read. is_convicted s (given read) c.args.q) (sym c.in-Err.ensures.exact)
