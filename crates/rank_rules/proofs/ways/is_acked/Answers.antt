use Rattle.std.proofs.Common.{◌∙◌, ap, sym}
use Rattle.byte_defs.specs.Choices.{is_some_and}
use Rattle.group_defs.specs.Due.{same_value}
use Rattle.rp_base.specs.Views.{value}
use Rattle.rule_laws.proofs.Chosen.{acked_is}
use Rattle.rank_rules.proofs.ways.is_acked.Goals as goal

pub returns-in-Some : goal.returns-in-Some
returns-in-Some c pool =
    c.same_value.ensures
    ∙ ap (λ o. is_some_and o (same_value (value c.args.value.now))) c.in-Some.ensures
    ∙ sym (acked_is c.args.pool.now.pool c.args.rank (value c.args.value.now) pool)

pub returns-in-None : goal.returns-in-None
returns-in-None c pool =
    ap (λ o. is_some_and o (same_value (value c.args.value.now))) c.in-None.ensures
    ∙ sym (acked_is c.args.pool.now.pool c.args.rank (value c.args.value.now) pool)
