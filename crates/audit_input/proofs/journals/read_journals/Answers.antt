use Rattle.std.proofs.Common.{inl, inr, refl, ◌∙◌}
use Rattle.std.proofs.lemmas.Result.{err_from_is_err_and}
use Rattle.kit_reading.specs.Fronts.{front_fault}
use Rattle.audit_input.specs.Places.{first_place, place}
use Rattle.audit_input.proofs.Runs.{first_goes, next_goes, one_fails}
use Rattle.audit_input.proofs.journals.read_journals.Goals as goal

pub journals-init : goal.journals-init
journals-init g c = record {
  goes = first_goes (g.S.Source.left c.args.input.now) c.args.first c.args.lines.now.ahead c.new-journals.result.items c.new-journals.ensures.items;
  steady = refl;
}

pub returns-in_err-journal-clause-fault : goal.returns-in_err-journal-clause-fault
returns-in_err-journal-clause-fault g c =
    let p = err_from_is_err_and c.from_residual.result c.from_residual.ensures.1 in
    rw (p.1, p.2) (one_fails (g.S.Source.left c.args.input.now) (g.S.Source.left c.journals.input) (g.S.Source.left c.next_journal.new.input)
    (first_place c.args.first c.args.lines.now.ahead) c.journals.journals.items
    (place c.journals.left c.journals.number c.journals.room c.journals.lines.ahead) c.journals.invariant.goes
    (front_fault c.in_err-journal.field-0.0) c.in_err-journal.ensures.fault)

pub journals-preserved : goal.journals-preserved
journals-preserved g c = record {
  goes = next_goes (g.S.Source.left c.args.input.now) (g.S.Source.left c.journals.input) (g.S.Source.left c.next_journal.new.input)
      (first_place c.args.first c.args.lines.now.ahead) c.journals.journals.items c.journals.left c.journals.number c.journals.room
      c.journals.lines.ahead c.next_journal.new.lines.ahead c.journals.invariant.goes c.in-Some.journal c.bytes.result.now
      c.push_journal.new.journals.items (rw c.in-Some.is at c.in_ok-journal.ensures.taken) c.bytes.ensures c.in_ok-push_journal.ensures;
  steady = elim c.in_ok-journal.ensures.steady [ inl bad ↦ absurd cc | inr same ↦ same ∙ c.journals.invariant.steady ];
}
