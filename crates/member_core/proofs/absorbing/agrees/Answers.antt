use Rattle.std.proofs.Common.{◌∙◌, map, sym, ap}
use Rattle.std.specs.List.{list_all}
use Rattle.group_defs.specs.Hearing.{is_valid}
use Rattle.member_events.specs.Below.{signed}
use Rattle.member_core.proofs.Absorbed.{unfit-so, fit-so}
use Rattle.member_core.proofs.absorbing.agrees.Goals as goal

pub returns-then-not-fits : goal.returns-then-not-fits
returns-then-not-fits g c s o shares range is =
    unfit-so o c.args.outcome.now c.args.count c.args.spent c.fits.result
    (list_all (is_valid s) o.signed) is c.fits.ensures c.if-not-fits.true

pub returns : goal.returns
returns g c s o shares range is =
    fit-so o c.args.outcome.now c.args.count c.args.spent c.fits.result
    (list_all (is_valid s) o.signed) is c.fits.ensures c.are_valid.result c.if-not-fits.false
    (c.are_valid.ensures s o.signed shares range (ap (map signed) c.deref.ensures.value ∙ sym is.signed_now))
