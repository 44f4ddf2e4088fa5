use Rattle.std.proofs.Common.{◌∙◌, ap}
use Rattle.group_defs.specs.Values.{is_quorum}
use Rattle.rank_rules.proofs.Justifying.{first-way-above}
use Rattle.rank_rules.proofs.ways.is_first_way.Goals as goal

pub returns-else-rank-eq0 : goal.returns-else-rank-eq0
returns-else-rank-eq0 c = first-way-above c.args.pool.now.pool c.args.rank c.if-rank-eq0.false c.is_quorum.result
    (c.is_quorum.ensures ∙ ap (is_quorum c.args.pool.now.pool) c.lasts_of_none.ensures)
