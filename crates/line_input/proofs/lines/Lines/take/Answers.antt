use Rattle.std.proofs.Common.{sym, ap, refl, ◌∙◌, arith}
use Rattle.line_input.specs.Taking.{Taken}
use Rattle.line_input.proofs.LineLaws.{no_feed, some_bytes, taken_behind, too_long, found_some}
use Rattle.line_input.proofs.lines.Lines.take.Goals as goal

pub returns-in-Some : goal.returns-in-Some
returns-in-Some c =
    taken_behind c.args.most c.self.inside.read.items c.args.self.now.ahead c.self.inside.next
    (sym (ap (λ (t : Taken). t.ahead) c.self.view_is)) c.in-Some.end
    (sym c.in-Some.is ∙ c.first_feed.ensures ∙ rw c.ahead-ahead.ensures refl) (omega (arith, c.if-end-most.true))

pub returns-in_default : goal.returns-in_default
returns-in_default c =
    let found = sym c.in-Some.is ∙ c.first_feed.ensures ∙ rw c.ahead-ahead.ensures refl in
    (too_long c.args.most c.args.self.now.ahead c.in-Some.end found (omega (arith, c.if-end-most.false)), found_some c.args.self.now.ahead c.in-Some.end found, refl)

pub returns-in_default-2 : goal.returns-in_default-2
returns-in_default-2 c = (
  no_feed c.args.most c.args.self.now.ahead (sym c.in-None.is ∙ c.first_feed.ensures ∙ rw c.ahead-ahead.ensures refl),
  some_bytes c.args.self.now.ahead c.is_empty.result (c.is_empty.ensures ∙ rw c.ahead-ahead.ensures refl) c.if-is_empty.false,
  refl,
)
