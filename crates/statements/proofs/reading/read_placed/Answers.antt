use Rattle.std.proofs.Common.{Result, ◌∙◌, ap, arith}
use Rattle.std.proofs.lemmas.Result.{err_from_is_err_and}
use Rattle.byte_defs.specs.Fields.{◌>>=◌}
use Rattle.message_defs.specs.declared.FrameFault.{FrameFault}
use Rattle.message_defs.specs.Statements.{Batch}
use Rattle.statements.proofs.Messages.{done, placed_after, wrong_length, wrong_number, right_numbers}
use Rattle.statements.proofs.reading.read_placed.Goals as goal

pub returns-then-rest-count : goal.returns-then-rest-count
returns-then-rest-count c = placed_after c.args.several c.args.bytes.now c.in_ok-view.view c.in_ok-place.place c.in_ok-count.count _ _ _
    c.in_ok-view.ensures c.in_ok-place.ensures c.in_ok-count.ensures.exact ∙ wrong_length c.in_ok-view.view c.in_ok-place.place
    c.in_ok-count.count c.in_ok-count.rest.now c.if-rest-count.true

pub returns-then-view-gt-LAST_NUMBER : goal.returns-then-view-gt-LAST_NUMBER
returns-then-view-gt-LAST_NUMBER c = placed_after c.args.several c.args.bytes.now c.in_ok-view.view c.in_ok-place.place c.in_ok-count.count
    _ _ _ c.in_ok-view.ensures c.in_ok-place.ensures c.in_ok-count.ensures.exact ∙ wrong_number c.in_ok-view.view c.in_ok-place.place
    c.in_ok-count.count c.in_ok-count.rest.now c.if-rest-count.false c.then-view-gt-LAST_NUMBER.either

pub returns-in_err-batch : goal.returns-in_err-batch
returns-in_err-batch c =
    let p = err_from_is_err_and c.from_residual-in_err-batch.result c.from_residual-in_err-batch.ensures.1 in
    let numbers = placed_after c.args.several c.args.bytes.now c.in_ok-view.view c.in_ok-place.place c.in_ok-count.count _ _ _
    c.in_ok-view.ensures c.in_ok-place.ensures c.in_ok-count.ensures.exact ∙ right_numbers c.in_ok-view.view c.in_ok-place.place
    c.in_ok-count.count c.in_ok-count.rest.now c.if-rest-count.false (omega (arith, c.if-view-gt-LAST_NUMBER.false))
    (omega (arith, c.if-place-gt-LAST_NUMBER.false)) in
    rw (p.1, p.2) (numbers ∙ ap (λ (r : Result Batch FrameFault). r >>= λ b. done
    (c.in_ok-view.view, c.in_ok-place.place, b)) c.in_err-batch.ensures)

pub returns : goal.returns
returns c =
    let numbers = placed_after c.args.several c.args.bytes.now c.in_ok-view.view c.in_ok-place.place c.in_ok-count.count _ _ _
    c.in_ok-view.ensures c.in_ok-place.ensures c.in_ok-count.ensures.exact ∙ right_numbers c.in_ok-view.view c.in_ok-place.place
    c.in_ok-count.count c.in_ok-count.rest.now c.if-rest-count.false (omega (arith, c.if-view-gt-LAST_NUMBER.false))
    (omega (arith, c.if-place-gt-LAST_NUMBER.false)) in
    numbers ∙ ap (λ (r : Result Batch FrameFault). r >>= λ b. done (c.in_ok-view.view, c.in_ok-place.place, b)) c.in_ok-batch.ensures
