use Rattle.sig_scheme.specs.Views.{scheme as scheme_in}
use Rattle.store_asking.specs.Lines.{said}
use Rattle.store_asking.specs.Places.{key_place, question_at}
use Rattle.store_asking.proofs.LineFaults.{line_fault_is}
use Rattle.store_asking.proofs.Questions.{broken, ended, said_in_kit, says, says_none}
use Rattle.store_asking.proofs.question.next_said.Goals as goal

pub returns-in-Some-clause-said : goal.returns-in-Some-clause-said
returns-in-Some-clause-said g c =
    says c.args.kit.now c.args.number c.args.keys.now c.args.lines.now.ahead _ _ c.read.new.self c.in_ok-read.field-0 c.in_ok-read.ensures.answers
    c.in-Line.is c.line.result.now c.line.ensures (said c.in-Some.said)
    (said_in_kit c.args.kit.now c.args.keys.now c.line.result.now _ (scheme_in c.scheme.result) c.roster.result.now c.scheme.ensures
    c.roster.ensures c.in-Some.ensures.said)

pub returns-in-None-clause-refused : goal.returns-in-None-clause-refused
returns-in-None-clause-refused g c =
    line_fault_is (question_at (key_place c.args.kit.now c.args.number c.args.keys.now c.args.lines.now.ahead)) _ _ c.args.number
    c.line_fault.result c.line_fault.ensures
    (says_none c.args.kit.now c.args.number c.args.keys.now c.args.lines.now.ahead _ _ c.read.new.self c.in_ok-read.field-0
    c.in_ok-read.ensures.answers c.in-Line.is c.line.result.now c.line.ensures
    (said_in_kit c.args.kit.now c.args.keys.now c.line.result.now _ (scheme_in c.scheme.result) c.roster.result.now c.scheme.ensures
    c.roster.ensures c.in-None.ensures.said))

pub returns-in-Broken-clause-refused : goal.returns-in-Broken-clause-refused
returns-in-Broken-clause-refused g c =
    line_fault_is (question_at (key_place c.args.kit.now c.args.number c.args.keys.now c.args.lines.now.ahead)) _ _ c.args.number
    c.line_fault-in-Broken.result c.line_fault-in-Broken.ensures
    (broken c.args.kit.now c.args.number c.args.keys.now c.args.lines.now.ahead _ _ c.read.new.self c.in_ok-read.field-0
    c.in_ok-read.ensures.answers c.in-Broken.is)

pub returns-in-End-clause-refused : goal.returns-in-End-clause-refused
returns-in-End-clause-refused g c =
    line_fault_is (question_at (key_place c.args.kit.now c.args.number c.args.keys.now c.args.lines.now.ahead)) _ _ c.args.number
    c.line_fault-in-End.result c.line_fault-in-End.ensures
    (ended c.args.kit.now c.args.number c.args.keys.now c.args.lines.now.ahead _ _ c.read.new.self c.in_ok-read.field-0
    c.in_ok-read.ensures.answers c.in-End.is)
