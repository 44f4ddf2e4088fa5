use Rattle.std.proofs.Common.{◌≡◌, ◌∙◌, ap, sym}
use Rattle.std.specs.Prelude.{◌&&◌, nat_lt}
use Rattle.std.proofs.lemmas.Bool.{lt-ltb, le-ltb}
use Rattle.message_defs.specs.Updates.{Value}
use Rattle.group_defs.specs.Values.{is_quorum}
use Rattle.rp_base.specs.Views.{value}
use Rattle.rank_rules.proofs.Justifying.{with-true, with-false, is_bounded, some_reports, second-way-is}
use Rattle.rank_rules.proofs.ways.is_second_way.Goals as goal
use Rattle.rank_rules.proofs.ways.is_second_way.Goals.{then-lower-rank, else-lower-rank, then-is_quorum, else-is_quorum}

pub returns-then-is_reported : goal.returns-then-is_reported
returns-then-is_reported c pool =
    let h = c.args.pool.now.pool in
    let v : Value = value c.args.value.now in
    let inner : c.if-lower-rank.value
    ≡ (nat_lt c.args.lower c.args.rank && is_bounded h c.args.rank c.args.lower) = elim c.if-lower-rank.branch [
      | then-lower-rank w ↦ with-true _ _ _ (lt-ltb c.args.lower c.args.rank w.if-lower-rank.true)
          (w.value-is ∙ w.is_quorum.ensures ∙ ap (is_quorum h) w.lasts_at_most.ensures)
      | else-lower-rank w ↦ with-false _ _ _ (le-ltb c.args.lower c.args.rank w.if-lower-rank.false)
          (w.value-is ∙ le-ltb c.args.lower c.args.rank w.if-lower-rank.false)
    ] in
    let both : c.if-is_quorum.value
    ≡ (nat_lt c.args.lower c.args.rank && is_bounded h c.args.rank c.args.lower
    && some_reports h c.args.rank c.args.lower v) = elim c.if-is_quorum.branch [
      | then-is_quorum w ↦ with-true _ _ _ (sym inner ∙ w.if-is_quorum.true) (w.value-is ∙ w.is_reported.ensures)
      | else-is_quorum w ↦ with-false _ _ _ (sym inner ∙ w.if-is_quorum.false) (w.value-is ∙ w.if-is_quorum.false)
    ] in
    with-true _ _ _ (sym both ∙ c.if-is_reported.true) (c.is_acked.ensures pool) ∙ second-way-is h c.args.rank c.args.lower v

pub returns-else-is_reported : goal.returns-else-is_reported
returns-else-is_reported c pool =
    let h = c.args.pool.now.pool in
    let v : Value = value c.args.value.now in
    let inner : c.if-lower-rank.value
    ≡ (nat_lt c.args.lower c.args.rank && is_bounded h c.args.rank c.args.lower) = elim c.if-lower-rank.branch [
      | then-lower-rank w ↦ with-true _ _ _ (lt-ltb c.args.lower c.args.rank w.if-lower-rank.true)
          (w.value-is ∙ w.is_quorum.ensures ∙ ap (is_quorum h) w.lasts_at_most.ensures)
      | else-lower-rank w ↦ with-false _ _ _ (le-ltb c.args.lower c.args.rank w.if-lower-rank.false)
          (w.value-is ∙ le-ltb c.args.lower c.args.rank w.if-lower-rank.false)
    ] in
    let both : c.if-is_quorum.value
    ≡ (nat_lt c.args.lower c.args.rank && is_bounded h c.args.rank c.args.lower
    && some_reports h c.args.rank c.args.lower v) = elim c.if-is_quorum.branch [
      | then-is_quorum w ↦ with-true _ _ _ (sym inner ∙ w.if-is_quorum.true) (w.value-is ∙ w.is_reported.ensures)
      | else-is_quorum w ↦ with-false _ _ _ (sym inner ∙ w.if-is_quorum.false) (w.value-is ∙ w.if-is_quorum.false)
    ] in
    with-false _ _ _ (sym both ∙ c.if-is_reported.false) c.if-is_reported.false ∙ second-way-is h c.args.rank c.args.lower v
