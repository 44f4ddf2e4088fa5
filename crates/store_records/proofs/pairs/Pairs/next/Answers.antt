use Rattle.std.proofs.Common.{◌<◌, ◌-◌, length, arith, sym, ◌∙◌}
use Rattle.std.proofs.lemmas.Bool.{eqb-true, eqb-false}
use Rattle.store_records.specs.Views.{pair}
use Rattle.store_records.proofs.Cursors.{one-more, no-pair, none-left, bytes-left}
use Rattle.store_records.proofs.pairs.Pairs.next.Goals as goal

pub returns-then-is_empty : goal.returns-then-is_empty
returns-then-is_empty c = none-left c.args.self.now.left c.args.self.now.before.now c.args.self.now.rest.now c.if-self-eq0.true
    (eqb-true _ _ (sym c.is_empty.ensures ∙ c.if-is_empty.true))

pub returns-else-is_empty : goal.returns-else-is_empty
returns-else-is_empty c =
    let differs = eqb-false (length c.args.self.now.rest.now) 0 (sym c.is_empty.ensures ∙ c.if-is_empty.false) in
    bytes-left c.args.self.now.left c.args.self.now.before.now c.args.self.now.rest.now c.if-self-eq0.true (omega (arith, differs))

pub returns-in_default : goal.returns-in_default
returns-in_default c =
    let some : 0 < c.args.self.now.left = omega arith in
    no-pair c.args.self.now.left c.args.self.now.before.now c.args.self.now.rest.now some c.in_default.ensures

pub returns : goal.returns
returns c =
    let some : 0 < c.args.self.now.left = omega arith in (
      one-more c.args.self.now.left (c.args.self.now.left - 1) c.args.self.now.before.now c.args.self.now.rest.now c.in-Ok.rest.now
          (pair c.in-Ok.pair) (omega (arith, some)) c.in-Ok.ensures,
      omega (arith, some),
    )
