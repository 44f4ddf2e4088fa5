use Rattle.std.proofs.Common.{refl}
use Rattle.std.proofs.lemmas.Bool.{eq-eqb}
use Rattle.std.proofs.lemmas.Result.{err_from_is_err_and}
use Rattle.kit_reading.specs.Faults.{fault_of}
use Rattle.store_asking.specs.Counts.{place_of}
use Rattle.store_asking.specs.Places.{vote_at}
use Rattle.store_asking.proofs.LineFaults.{line_fault_is}
use Rattle.store_asking.proofs.Votes.{broken, counted, ended, may_come, none_left, uncounted_if}
use Rattle.store_asking.proofs.counting.next_reply.Goals as goal

pub returns-then-count-eq0-clause-refused : goal.returns-then-count-eq0-clause-refused
returns-then-count-eq0-clause-refused g c =
    line_fault_is (vote_at (place_of c.args.kit.now c.args.keys.now c.args.count.now c.args.lines.now.ahead)) _ _ c.args.count.now.number
    c.line_fault-then-count-eq0.result c.line_fault-then-count-eq0.ensures
    (none_left c.args.kit.now c.args.keys.now c.args.count.now.number c.args.count.now.left c.args.count.now.vote c.args.lines.now.ahead _ _
    c.read.new.self c.in_ok-read.field-0 c.in_ok-read.ensures.answers c.in-Line.is (eq-eqb c.args.count.now.left 0 c.if-count-eq0.true))

pub returns-in_err-offer_line-in-Line-clause-refused : goal.returns-in_err-offer_line-in-Line-clause-refused
returns-in_err-offer_line-in-Line-clause-refused g c =
    let p = err_from_is_err_and c.from_residual-in_err-offer_line-in-Line.result c.from_residual-in_err-offer_line-in-Line.ensures.1 in
    rw (p.1, p.2) (uncounted_if c.args.kit.now c.args.keys.now c.args.count.now.number c.args.count.now.left c.args.count.now.vote
    c.args.lines.now.ahead _ _ c.read.new.self c.in_ok-read.field-0 c.in_ok-read.ensures.answers c.in-Line.is c.line.result.now c.line.ensures
    (may_come c.args.count.now.left c.if-count-eq0.false) (fault_of c.in_err-offer_line-in-Line.field-0.0)
    c.in_err-offer_line-in-Line.ensures.counted)

pub returns-in-End-clause-ended : goal.returns-in-End-clause-ended
returns-in-End-clause-ended g c = λ e.
    ended c.args.kit.now c.args.keys.now c.args.count.now.number c.args.count.now.left c.args.count.now.vote c.args.lines.now.ahead _ _
    c.read.new.self c.in_ok-read.field-0 c.in_ok-read.ensures.answers c.in-End.is

pub returns-in-Broken-clause-refused : goal.returns-in-Broken-clause-refused
returns-in-Broken-clause-refused g c =
    line_fault_is (vote_at (place_of c.args.kit.now c.args.keys.now c.args.count.now c.args.lines.now.ahead)) _ _ c.args.count.now.number
    c.line_fault.result c.line_fault.ensures
    (broken c.args.kit.now c.args.keys.now c.args.count.now.number c.args.count.now.left c.args.count.now.vote c.args.lines.now.ahead _ _
    c.read.new.self c.in_ok-read.field-0 c.in_ok-read.ensures.answers c.in-Broken.is)

pub returns-in_ok-count-in-Line-clause-counted : goal.returns-in_ok-count-in-Line-clause-counted
returns-in_ok-count-in-Line-clause-counted g c = λ e.
    counted c.args.kit.now c.args.keys.now c.args.count.now.number c.args.count.now.left c.args.count.now.vote c.args.lines.now.ahead _ _
    c.read.new.self c.in_ok-read.field-0 c.in_ok-read.ensures.answers c.in-Line.is c.line.result.now c.line.ensures
    (may_come c.args.count.now.left c.if-count-eq0.false) c.offer_line.new.vote c.in_ok-count-in-Line.field-0 _
    c.in_ok-offer_line-in-Line.ensures.counted c.in_ok-count-in-Line.ensures refl
