use Rattle.std.proofs.Common.{inl, inr, Ok, refl, sym, ap, subst, ◌∙◌}
use Rattle.std.proofs.lemmas.Result.{err_from_is_err_and}
use Rattle.line_input.specs.Places.{Leads}
use Rattle.line_laws.proofs.Read.{ends_then, nothing_read, read_more}
use Rattle.kit_reading.specs.Fronts.{front_fault}
use Rattle.store_questions.specs.Gathering.{PlainGathered, nothing_gathered}
use Rattle.store_questions.specs.Places.{gather_at, place}
use Rattle.store_questions.specs.Views.{gathered}
use Rattle.store_questions.proofs.Gathering.{settles_if}
use Rattle.store_questions.proofs.reading.gather.Goals as goal

pub lines-init : goal.lines-init
lines-init g c = record {
  leads = subst (λ (x : PlainGathered). Leads (gather_at (place c.args.kit.now c.args.payload.now c.args.first nothing_gathered c.args.lines.now.ahead))
      (g.S.Source.left c.args.input.now) (g.S.Source.left c.args.input.now)
      (gather_at (place c.args.kit.now c.args.payload.now c.args.first x c.args.lines.now.ahead))) (sym c.new-gathered.ensures)
      (nothing_read _ _);
  steady = refl;
}

pub returns-in_err-next_line-clause-refused : goal.returns-in_err-next_line-clause-refused
returns-in_err-next_line-clause-refused g c =
    let p = err_from_is_err_and c.from_residual.result c.from_residual.ensures.1 in
    rw (p.1, p.2) (settles_if _ _ _ _ _ (front_fault c.in_err-next_line.field-0.0) c.lines.invariant.leads c.in_err-next_line.ensures.refused)

pub returns-then-not-branch-clause-gathered : goal.returns-then-not-branch-clause-gathered
returns-then-not-branch-clause-gathered g c =
    ends_then (gather_at (place c.args.kit.now c.args.payload.now c.args.first nothing_gathered c.args.lines.now.ahead))
    (gather_at (place c.args.kit.now c.args.payload.now c.lines.number (gathered c.lines.gathered) c.lines.lines.ahead))
    (Ok (gathered c.next_line.new.gathered))
    (g.S.Source.left c.args.input.now) (g.S.Source.left c.lines.input) (g.S.Source.left c.next_line.new.input) c.lines.invariant.leads
    (c.in_ok-next_line.ensures.ended (ap (λ b. Ok b) c.if-not-branch.true))

pub lines-preserved : goal.lines-preserved
lines-preserved g c = record {
  leads = read_more (gather_at (place c.args.kit.now c.args.payload.now c.args.first nothing_gathered c.args.lines.now.ahead))
      (gather_at (place c.args.kit.now c.args.payload.now c.lines.number (gathered c.lines.gathered) c.lines.lines.ahead))
      (gather_at (place c.args.kit.now c.args.payload.now _ (gathered c.next_line.new.gathered) c.next_line.new.lines.ahead))
      (g.S.Source.left c.args.input.now) (g.S.Source.left c.lines.input) (g.S.Source.left c.next_line.new.input) c.lines.invariant.leads
      (c.in_ok-next_line.ensures.taken (ap (λ b. Ok b) c.if-not-branch.false));
  steady = elim c.in_ok-next_line.ensures.steady [ inl bad ↦ absurd cc | inr same ↦ same ∙ c.lines.invariant.steady ];
}
