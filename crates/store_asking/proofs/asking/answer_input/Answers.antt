use Rattle.std.proofs.Common.{◌≡◌, [], ap}
use Rattle.std.proofs.lemmas.Result.{err_from_is_err_and}
use Rattle.line_input.specs.Taking.{Taken}
use Rattle.kit_reading.specs.Fronts.{front_fault}
use Rattle.store_asking.proofs.Runs.{is_answered, no_front, no_questions, no_votes}
use Rattle.store_asking.proofs.asking.answer_input.Goals as goal

pub returns-in_err-front-clause-refused : goal.returns-in_err-front-clause-refused
returns-in_err-front-clause-refused g c =
    let p = err_from_is_err_and c.from_residual.result c.from_residual.ensures.1 in
    rw (p.1, p.2) (no_front _ _ c.new-lines.result.ahead (front_fault c.in_err-front.field-0.0) (ap (λ (t : Taken). t.ahead) c.new-lines.ensures)
    c.in_err-front.ensures.fault)

pub returns-in_err-question-clause-refused : goal.returns-in_err-question-clause-refused
returns-in_err-question-clause-refused g c =
    let p = err_from_is_err_and c.from_residual-in_err-question.result c.from_residual-in_err-question.ensures.1 in
    rw (p.1, p.2) (no_questions c.args.payload.now _ _ c.new-lines.result.ahead (ap (λ (t : Taken). t.ahead) c.new-lines.ensures)
    c.in_ok-front.front.kit c.in_ok-front.front.go c.in_ok-first.first _ c.in_ok-front.ensures.found c.in_ok-first.ensures _
    (front_fault c.in_err-question.field-0.0) c.in_err-question.ensures.refused)

pub returns-in_err-vote-clause-refused : goal.returns-in_err-vote-clause-refused
returns-in_err-vote-clause-refused g c =
    let p = err_from_is_err_and c.from_residual-in_err-vote.result c.from_residual-in_err-vote.ensures.1 in
    rw (p.1, p.2) (no_votes c.args.payload.now _ _ c.new-lines.result.ahead (ap (λ (t : Taken). t.ahead) c.new-lines.ensures)
    c.in_ok-front.front.kit c.in_ok-front.front.go c.in_ok-first.first _ c.in_ok-front.ensures.found c.in_ok-first.ensures _
    c.in_ok-question.question.keys c.in_ok-question.question.view c.in_ok-question.question.line c.in_ok-next.next c.read_question.new.lines.ahead c.in_ok-nobody.nobody
    c.in_ok-question.ensures.asked c.in_ok-next.ensures c.in_ok-nobody.ensures _ (front_fault c.in_err-vote.field-0.0)
    c.in_err-vote.ensures.refused)

pub returns-clause-answers : goal.returns-clause-answers
returns-clause-answers g c =
    is_answered c.args.payload.now (g.S.Source.left c.args.input.now) (g.S.Source.left c.read_front.new.input) c.new-lines.result.ahead
    (ap (λ (t : Taken). t.ahead) c.new-lines.ensures) c.in_ok-front.front.kit c.in_ok-front.front.go c.in_ok-first.first
    c.read_front.new.lines.ahead c.in_ok-front.ensures.found c.in_ok-first.ensures (g.S.Source.left c.read_question.new.input)
    c.in_ok-question.question.keys c.in_ok-question.question.view c.in_ok-question.question.line c.in_ok-next.next
    c.read_question.new.lines.ahead c.in_ok-nobody.nobody c.in_ok-question.ensures.asked c.in_ok-next.ensures c.in_ok-nobody.ensures
    (g.S.Source.left c.read_replies.new.input) c.in_ok-vote.vote c.number-number.result _ c.in_ok-answer_line.field-0.items
    c.in_ok-vote.ensures.counted c.number-number.ensures.value c.accepted.ensures c.in_ok-answer_line.ensures
