use Rattle.std.proofs.Common.{Ok, ap}
use Rattle.store_questions.specs.Places.{gather_at, place}
use Rattle.store_questions.specs.Views.{gathered}
use Rattle.store_questions.proofs.Gathering.{broken, ended, goes_on, line_fault_is, refused}
use Rattle.store_questions.proofs.reading.next_line.Goals as goal

pub returns-in-End-clause-ended : goal.returns-in-End-clause-ended
returns-in-End-clause-ended g c = λ e.
    ended c.args.kit.now c.args.payload.now c.args.number (gathered c.args.gathered.now) c.args.lines.now.ahead _ _ c.read.new.self
    c.in_ok-read.field-0 c.in_ok-read.ensures.answers c.in-End.is

pub returns-in-Broken-clause-refused : goal.returns-in-Broken-clause-refused
returns-in-Broken-clause-refused g c =
    line_fault_is (gather_at (place c.args.kit.now c.args.payload.now c.args.number (gathered c.args.gathered.now) c.args.lines.now.ahead)) _ _
    c.args.number c.line_fault.result c.line_fault.ensures
    (broken c.args.kit.now c.args.payload.now c.args.number (gathered c.args.gathered.now) c.args.lines.now.ahead _ _ c.read.new.self
    c.in_ok-read.field-0 c.in_ok-read.ensures.answers c.in-Broken.is)

pub returns-then-not-branch-clause-refused : goal.returns-then-not-branch-clause-refused
returns-then-not-branch-clause-refused g c =
    line_fault_is (gather_at (place c.args.kit.now c.args.payload.now c.args.number (gathered c.args.gathered.now) c.args.lines.now.ahead)) _ _
    c.args.number c.line_fault-then-not-branch.result c.line_fault-then-not-branch.ensures
    (refused c.args.kit.now c.args.payload.now c.args.number (gathered c.args.gathered.now) c.args.lines.now.ahead _ _ c.read.new.self
    c.in_ok-read.field-0 c.in_ok-read.ensures.answers c.in-Line.is c.line.result.now c.line.ensures
    (c.in_ok-take-in-Line.ensures.many (ap (λ b. Ok b) c.if-not-branch.true)))

pub returns-else-not-branch-clause-taken : goal.returns-else-not-branch-clause-taken
returns-else-not-branch-clause-taken g c = λ e.
    goes_on c.args.kit.now c.args.payload.now c.args.number (gathered c.args.gathered.now) c.args.lines.now.ahead _ _ c.read.new.self
    c.in_ok-read.field-0 c.in_ok-read.ensures.answers c.in-Line.is c.line.result.now c.line.ensures (gathered c.take.new.self)
    (c.in_ok-take-in-Line.ensures.taken (ap (λ b. Ok b) c.if-not-branch.false))
    (c.in_ok-take-in-Line.ensures.fits (ap (λ b. Ok b) c.if-not-branch.false))
