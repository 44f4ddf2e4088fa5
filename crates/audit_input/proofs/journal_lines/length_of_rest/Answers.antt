use Rattle.audit_input.proofs.Lines.{one_number}
use Rattle.audit_input.proofs.journal_lines.length_of_rest.Goals as goal

pub returns-then-is_done : goal.returns-then-is_done
returns-then-is_done c =
    one_number _ _ _ c.is_done.result c.number.result c.in_ok-word.ensures.steps c.is_done.ensures c.if-is_done.true c.number.ensures.value
