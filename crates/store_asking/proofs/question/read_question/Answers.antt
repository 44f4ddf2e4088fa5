use Rattle.std.proofs.Common.{◌≡◌, ◌∷◌, [], inl, inr, List, ℕ, refl, sym, subst, ap, ◌∙◌}
use Rattle.std.proofs.lemmas.Result.{err_from_is_err_and}
use Rattle.line_input.specs.Places.{Leads}
use Rattle.kit_reading.specs.Fronts.{front_fault}
use Rattle.store_asking.specs.Lines.{Key, said}
use Rattle.store_asking.specs.Places.{key_place, question_at}
use Rattle.store_asking.proofs.LineFaults.{settles_if}
use Rattle.line_laws.proofs.Read.{nothing_read}
use Rattle.store_asking.proofs.Questions.{more_keys, the_view}
use Rattle.store_asking.proofs.question.read_question.Goals as goal

pub lines-init : goal.lines-init
lines-init g c = record {
  leads = subst (λ (ks : List (ℕ × List ℕ)). Leads (question_at (key_place c.args.kit.now c.args.first [] c.args.lines.now.ahead))
      (g.S.Source.left c.args.input.now) (g.S.Source.left c.args.input.now)
      (question_at (key_place c.args.kit.now c.args.first ks c.args.lines.now.ahead))) (sym c.in_ok-keys.ensures)
      (nothing_read (question_at (key_place c.args.kit.now c.args.first [] c.args.lines.now.ahead)) (g.S.Source.left c.args.input.now));
  steady = refl;
}

pub returns-in_err-process-clause-refused : goal.returns-in_err-process-clause-refused
returns-in_err-process-clause-refused g c =
    let p = err_from_is_err_and c.from_residual-in_err-process.result c.from_residual-in_err-process.ensures.1 in
    rw (p.1, p.2) (settles_if _ _ _ _ _ (front_fault c.in_err-process.field-0.0) c.lines.invariant.leads c.in_err-process.ensures.refused)

pub returns-in-Of-clause-asked : goal.returns-in-Of-clause-asked
returns-in-Of-clause-asked g c =
    the_view c.args.kit.now (key_place c.args.kit.now c.args.first [] c.args.lines.now.ahead) c.lines.number c.lines.keys c.lines.lines.ahead
    c.next_said.new.lines.ahead (g.S.Source.left c.args.input.now) (g.S.Source.left c.lines.input) (g.S.Source.left c.next_said.new.input)
    (said c.in_ok-process.field-0) c.lines.invariant.leads c.in_ok-process.ensures.said c.in-Of.view (ap said c.in-Of.is)

pub lines-preserved : goal.lines-preserved
lines-preserved g c = record {
  leads = more_keys c.args.kit.now (key_place c.args.kit.now c.args.first [] c.args.lines.now.ahead) c.lines.number c.lines.keys c.lines.lines.ahead
      c.next_said.new.lines.ahead (g.S.Source.left c.args.input.now) (g.S.Source.left c.lines.input) (g.S.Source.left c.next_said.new.input)
      (said c.in_ok-process.field-0) c.lines.invariant.leads c.in_ok-process.ensures.said c.in-ReplyKey.process _ c.as_bytes.result.now
      c.add.new.self (ap said c.in-ReplyKey.is ∙ ap (λ (k : List ℕ). Key c.in-ReplyKey.process k) (sym c.as_bytes.ensures.value))
      c.in_ok-add-in-ReplyKey.ensures.added refl;
  steady = elim c.in_ok-process.ensures.steady [ inl bad ↦ absurd cc | inr same ↦ same ∙ c.lines.invariant.steady ];
}
