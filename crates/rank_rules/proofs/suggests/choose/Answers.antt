use Rattle.std.proofs.Common.{◌∙◌, Some, None, ap, sym}
use Rattle.std.specs.Prelude.{if◌then◌else◌}
use Rattle.std.specs.Option.{option_map}
use Rattle.group_defs.specs.Values.{free_value, is_first_way}
use Rattle.rp_base.specs.Views.{value}
use Rattle.rank_rules.proofs.Justifying.{choose-by}
use Rattle.rank_rules.proofs.Unheard.{in-no-case}
use Rattle.rank_rules.proofs.suggests.choose.Goals as goal

pub returns-in-Some : goal.returns-in-Some
returns-in-Some c pool s free = c.certified_ack.ensures ∙ choose-by c.args.pool.now.pool pool s c.args.rank (Some c.in-Some.lower)
    (c.in-Some.ensures pool)

pub returns-in_err-value-in-None : goal.returns-in_err-value-in-None
returns-in_err-value-in-None c pool s free =
    let h = c.args.pool.now.pool in
    ap (option_map value) c.from_residual.ensures
    ∙ sym (in-no-case (is_first_way h c.args.rank) (free_value s h) (sym free ∙ ap (option_map value) c.in_err-value-in-None.was))
    ∙ choose-by h pool s c.args.rank None (c.in-None.ensures pool)

pub returns-then-is_first_way : goal.returns-then-is_first_way
returns-then-is_first_way c pool s free =
    sym (ap (option_map value) c.in_ok-value-in-None.was) ∙ free
    ∙ ap (λ b. if b then free_value s c.args.pool.now.pool else None) c.if-is_first_way.ensures
    ∙ choose-by c.args.pool.now.pool pool s c.args.rank None (c.in-None.ensures pool)

pub returns-else-is_first_way : goal.returns-else-is_first_way
returns-else-is_first_way c pool s free =
    ap (λ b. if b then free_value s c.args.pool.now.pool else None) c.if-is_first_way.ensures
    ∙ choose-by c.args.pool.now.pool pool s c.args.rank None (c.in-None.ensures pool)
