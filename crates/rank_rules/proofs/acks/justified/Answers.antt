use Rattle.std.proofs.Common.{◌≡◌, ◌∙◌, ap, sym}
use Rattle.std.specs.Prelude.{◌&&◌, ◌||◌, is_some}
use Rattle.group_defs.specs.Values.{is_first_way}
use Rattle.rp_base.specs.Views.{value}
use Rattle.rank_rules.proofs.Justifying.{with-true, with-false, justified-by}
use Rattle.rank_rules.proofs.acks.justified.Goals as goal
use Rattle.rank_rules.proofs.acks.justified.Goals.{then-free, else-free}

pub returns-else-is_first_way : goal.returns-else-is_first_way
returns-else-is_first_way c pool s free =
    let h = c.args.pool.now.pool in
    let first : c.if-free.value ≡ (c.args.free && is_first_way h c.args.rank) = elim c.if-free.branch [
      | then-free w ↦ with-true _ _ _ w.if-free.true (w.value-is ∙ w.is_first_way.ensures)
      | else-free w ↦ with-false _ _ _ w.if-free.false (w.value-is ∙ w.if-free.false)
    ] in
    c.is_some.ensures
    ∙ ap (λ b. b || is_some c.first_deciding.result) (sym (sym first ∙ c.if-is_first_way.false))
    ∙ justified-by h s c.args.rank (value c.args.value) c.args.free free c.first_deciding.result (c.first_deciding.ensures pool)
