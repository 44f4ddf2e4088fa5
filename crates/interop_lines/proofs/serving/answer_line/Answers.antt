use Rattle.std.proofs.Common.{Err, ap}
use Rattle.interop_words.specs.declared.line_fault.LineFault.{LineFault}
use Rattle.interop_lines.proofs.serving.answer_line.Goals as goal

pub returns-in-Err-NoQuestion-clause-refused : goal.returns-in-Err-NoQuestion-clause-refused
returns-in-Err-NoQuestion-clause-refused g c = λ n e.
    (cc, c.in-Err-NoQuestion.ensures.no_question (ap (λ (x : LineFault). Err x) c.in-Err-NoQuestion.field-0-is))
