use Rattle.std.proofs.Common.{arith}
use Rattle.std.proofs.lemmas.List.{get_or_default}
use Rattle.story_reading.proofs.MarkLoop.{ends, found, goes_on}
use Rattle.story_reading.proofs.assembling.line_at.Goals as goal

pub returns-then-behind-mark : goal.returns-then-behind-mark
returns-then-behind-mark c =
    found c.marks.behind c.marks.mark-index c.args.marks.now _ _ c.marks-test.true
    (get_or_default c.args.marks.now c.marks.mark-index _ _ c.marks-test.true) c.marks.invariant c.if-behind-mark.true

pub marks-preserved : goal.marks-preserved
marks-preserved c =
    goes_on c.marks.behind c.marks.mark-index c.args.marks.now _ _ c.marks-test.true
    (get_or_default c.args.marks.now c.marks.mark-index _ _ c.marks-test.true) c.marks.invariant c.if-behind-mark.false

pub returns : goal.returns
returns c = ends c.marks.behind c.marks.mark-index c.args.marks.now _ (omega (arith, c.marks-test.false)) c.marks.invariant
