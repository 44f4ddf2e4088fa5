use Rattle.std.proofs.Common.{ap}
use Rattle.std.proofs.lemmas.Result.{err_from_is_err_and}
use Rattle.line_input.specs.Taking.{Taken}
use Rattle.kit_reading.specs.Fronts.{front_fault}
use Rattle.audit_input.proofs.Runs.{all_read, journals_fail}
use Rattle.audit_input.proofs.reading.read_input.Goals as goal

pub returns-in_err-journals-clause-fault : goal.returns-in_err-journals-clause-fault
returns-in_err-journals-clause-fault g c =
    let p = err_from_is_err_and c.from_residual-in_err-journals.result c.from_residual-in_err-journals.ensures.1 in
    rw (p.1, p.2) (journals_fail _ _ _ c.in_ok-front.front.kit c.in_ok-front.front.go c.in_ok-first.first c.new-lines.result.ahead _
    (ap (λ (t : Taken). t.ahead) c.new-lines.ensures) c.in_ok-front.ensures.found c.in_ok-first.ensures.next
    (front_fault c.in_err-journals.field-0.0) c.in_err-journals.ensures.fault)

pub returns-clause-found : goal.returns-clause-found
returns-clause-found g c =
    all_read _ _ _ c.in_ok-front.front.kit c.in_ok-front.front.go c.in_ok-first.first c.new-lines.result.ahead _
    (ap (λ (t : Taken). t.ahead) c.new-lines.ensures) c.in_ok-front.ensures.found c.in_ok-first.ensures.next
    c.in_ok-journals.journals.items c.in_ok-journals.ensures.read
