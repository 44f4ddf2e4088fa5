use Rattle.std.proofs.Common.{sym, ◌∙◌}
use Rattle.audit_input.proofs.Steps.{input_ended, line_broken, line_refused, line_taken}
use Rattle.audit_input.proofs.journal_lines.next_length.Goals as goal

pub returns-in-End-clause-ended : goal.returns-in-End-clause-ended
returns-in-End-clause-ended g c = λ e.
    input_ended c.args.left c.args.number c.args.room c.args.lines.now.ahead _ _ c.read.new.self c.in_ok-read.field-0
    c.in_ok-read.ensures.answers c.in-End.is

pub returns-in-Broken-clause-fault : goal.returns-in-Broken-clause-fault
returns-in-Broken-clause-fault g c =
    line_broken c.args.left c.args.number c.args.room c.args.lines.now.ahead _ _ c.read.new.self c.in_ok-read.field-0
    c.in_ok-read.ensures.answers c.in-Broken.is

pub returns-in-Some-clause-taken : goal.returns-in-Some-clause-taken
returns-in-Some-clause-taken g c =
    line_taken c.args.left c.args.number c.args.room c.args.lines.now.ahead _ _ c.read.new.self c.in_ok-read.field-0
    c.in_ok-read.ensures.answers c.in-Line.is c.line.result.now c.line.ensures c.in-Some.len (sym c.in-Some.is ∙ c.length_that_fits.ensures)

pub returns-in-None-clause-fault : goal.returns-in-None-clause-fault
returns-in-None-clause-fault g c =
    line_refused c.args.left c.args.number c.args.room c.args.lines.now.ahead _ _ c.read.new.self c.in_ok-read.field-0
    c.in_ok-read.ensures.answers c.in-Line.is c.line.result.now c.line.ensures (sym c.in-None.is ∙ c.length_that_fits.ensures)
