use Rattle.std.proofs.Common.{ap, sym}
use Rattle.byte_defs.specs.Choices.{is_some_and}
use Rattle.group_defs.specs.Values.{is_second_way}
use Rattle.rank_rules.proofs.Unheard.{unacked}
use Rattle.rank_rules.proofs.ways.last_deciding.Goals as goal

pub returns-then-not-hears : goal.returns-then-not-hears
returns-then-not-hears c pool r lt = ap (λ o. is_some_and o (is_second_way c.args.pool.now.pool c.args.rank r))
    (unacked c.args.pool.now.pool (sym c.if-not-hears.ensures) r)
