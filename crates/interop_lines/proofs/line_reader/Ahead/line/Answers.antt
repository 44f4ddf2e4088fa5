use Rattle.std.proofs.Common.{refl, sym, ◌∙◌, arith}
use Rattle.interop_lines.proofs.LineLaws.{no_feed, taken, too_long}
use Rattle.interop_lines.proofs.line_reader.Ahead.line.Goals as goal

pub returns-in-Some-clause-line : goal.returns-in-Some-clause-line
returns-in-Some-clause-line c =
    taken c.args.self.now c.in-Some.end (sym c.in-Some.is ∙ c.first_feed.ensures ∙ rw c.bytes.ensures refl)
    (omega (arith, c.if-end-le-LIMIT.true))

pub returns-in_default-clause-none : goal.returns-in_default-clause-none
returns-in_default-clause-none c = λ e.
    too_long c.args.self.now c.in-Some.end (sym c.in-Some.is ∙ c.first_feed.ensures ∙ rw c.bytes.ensures refl)
    (omega (arith, c.if-end-le-LIMIT.false))

pub returns-in_default-2-clause-none : goal.returns-in_default-2-clause-none
returns-in_default-2-clause-none c = λ e.
    no_feed c.args.self.now (sym c.in_default.is ∙ c.first_feed.ensures ∙ rw c.bytes.ensures refl)
