use Rattle.std.proofs.Common.{ap}
use Rattle.std.proofs.lemmas.Result.{err_from_is_err_and}
use Rattle.line_input.specs.Taking.{Taken}
use Rattle.kit_reading.specs.Fronts.{front_fault}
use Rattle.store_questions.specs.Views.{gathered}
use Rattle.store_questions.proofs.Runs.{all_lines, no_front, no_lines}
use Rattle.store_questions.proofs.reading.make_input.Goals as goal

pub returns-in_err-front-clause-refused : goal.returns-in_err-front-clause-refused
returns-in_err-front-clause-refused g c =
    let p = err_from_is_err_and c.from_residual.result c.from_residual.ensures.1 in
    rw (p.1, p.2) (no_front c.args.payload.now _ _ c.new-lines.result.ahead (front_fault c.in_err-front.field-0.0)
    (ap (λ (t : Taken). t.ahead) c.new-lines.ensures) c.in_err-front.ensures.fault)

pub returns-in_err-gathered-clause-refused : goal.returns-in_err-gathered-clause-refused
returns-in_err-gathered-clause-refused g c =
    let p = err_from_is_err_and c.from_residual-in_err-gathered.result c.from_residual-in_err-gathered.ensures.1 in
    rw (p.1, p.2) (no_lines c.args.payload.now _ _ c.new-lines.result.ahead (ap (λ (t : Taken). t.ahead) c.new-lines.ensures)
    c.in_ok-front.front.kit c.in_ok-front.front.go c.in_ok-first.first _ c.in_ok-front.ensures.found c.in_ok-first.ensures _
    (front_fault c.in_err-gathered.field-0.0) c.in_err-gathered.ensures.refused)

pub returns-clause-made : goal.returns-clause-made
returns-clause-made g c =
    all_lines c.args.payload.now _ _ c.new-lines.result.ahead (ap (λ (t : Taken). t.ahead) c.new-lines.ensures)
    c.in_ok-front.front.kit c.in_ok-front.front.go c.in_ok-first.first _ c.in_ok-front.ensures.found c.in_ok-first.ensures _
    (gathered c.in_ok-gathered.gathered) _ c.in_ok-gathered.ensures.gathered c.in_ok-text.ensures
