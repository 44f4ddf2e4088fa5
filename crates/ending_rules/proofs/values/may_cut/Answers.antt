use Rattle.std.proofs.Common.{◌≡◌, ◌∙◌, ap, sym, refl, true, false}
use Rattle.group_defs.specs.Values.{is_quorum}
use Rattle.ending_rules.proofs.Cuts.{cut-is}
use Rattle.ending_rules.proofs.values.may_cut.Goals as goal
use Rattle.ending_rules.proofs.values.may_cut.Goals.{then-is_quorum, else-is_quorum}

pub returns-then-is_said : goal.returns-then-is_said
returns-then-is_said c = elim c.if-is_quorum.branch [
  | then-is_quorum w ↦ cut-is c.args.pool.now.pool c.args.cut true true c.is_placed_below.result
      (sym w.if-is_quorum.true ∙ c.is_quorum.ensures ∙ ap (is_quorum c.args.pool.now.pool) c.ends_up_to.ensures)
      (sym c.if-is_said.true ∙ w.value-is ∙ w.is_said.ensures) c.is_placed_below.ensures
  | else-is_quorum w ↦ absurd (let clash : true ≡ false = sym c.if-is_said.true ∙ w.value-is ∙ w.if-is_quorum.false in cc)
]

pub returns-else-is_said : goal.returns-else-is_said
returns-else-is_said c = elim c.if-is_quorum.branch [
  | then-is_quorum w ↦ c.if-is_said.false ∙ cut-is c.args.pool.now.pool c.args.cut true false _
      (sym w.if-is_quorum.true ∙ c.is_quorum.ensures ∙ ap (is_quorum c.args.pool.now.pool) c.ends_up_to.ensures)
      (sym c.if-is_said.false ∙ w.value-is ∙ w.is_said.ensures) refl
  | else-is_quorum w ↦ c.if-is_said.false ∙ cut-is c.args.pool.now.pool c.args.cut false _ _
      (sym w.if-is_quorum.false ∙ c.is_quorum.ensures ∙ ap (is_quorum c.args.pool.now.pool) c.ends_up_to.ensures) refl refl
]
