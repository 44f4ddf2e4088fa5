use Rattle.std.proofs.Common.{◌≡◌}
use Rattle.std.proofs.lemmas.Result.{err_from_is_err_and}
use Rattle.audit_input.specs.declared.stops.Fault.TheVariants.{Line}
use Rattle.witness_words.proofs.Steps.{input_ended, line_broken, line_refused, line_taken}
use Rattle.witness_words.proofs.judging.step.Goals as goal

pub returns-in-End-clause-ended : goal.returns-in-End-clause-ended
returns-in-End-clause-ended g c = λ e.
    input_ended c.args.kit.now c.args.number c.args.lines.now.ahead _ _ c.read.new.self c.in_ok-read.field-0
    c.in_ok-read.ensures.answers c.in-End.is

pub returns-in-Broken-clause-refused : goal.returns-in-Broken-clause-refused
returns-in-Broken-clause-refused g c = λ fault e.
    let same : Line c.args.number ≡ fault = cc in
    line_broken c.args.kit.now c.args.number c.args.lines.now.ahead _ _ c.read.new.self c.in_ok-read.field-0
    c.in_ok-read.ensures.answers c.in-Broken.is fault same

pub returns-in_err-take_line-in-Line-clause-refused : goal.returns-in_err-take_line-in-Line-clause-refused
returns-in_err-take_line-in-Line-clause-refused g c = λ fault e.
    let p = err_from_is_err_and c.from_residual-in_err-take_line-in-Line.result c.from_residual-in_err-take_line-in-Line.ensures.1 in
    line_refused c.args.kit.now c.args.number c.args.lines.now.ahead _ _ c.read.new.self c.in_ok-read.field-0
    c.in_ok-read.ensures.answers c.in-Line.is c.line.result.now c.line.ensures fault
    (c.in_err-take_line-in-Line.ensures.refused fault (cc (p.1, p.2, e)))

pub returns-in_ok-take_line-in-Line-clause-taken : goal.returns-in_ok-take_line-in-Line-clause-taken
returns-in_ok-take_line-in-Line-clause-taken g c = λ e.
    line_taken c.args.kit.now c.args.number c.args.lines.now.ahead _ _ c.read.new.self c.in_ok-read.field-0
    c.in_ok-read.ensures.answers c.in-Line.is c.line.result.now c.line.ensures c.in_ok-take_line-in-Line.ensures.taken
