use Rattle.std.proofs.Common.{arith}
use Rattle.page.proofs.Asked.{assembles_at, never_words, reads_at}
use Rattle.page.proofs.page_story.Goals as goal

pub returns-clause-number : goal.returns-clause-number
returns-clause-number c = (
  λ two. absurd (never_words _ c.args.command _ _ (omega (arith, c.if-command-gt-DRAW.false)) c.deref.ensures.value c.in-Ok.ensures
      c.run_story-ran.ensures.words two),
  λ many. absurd (omega (arith, c.if-command-gt-DRAW.false, many)),
)

pub returns-clause-assembles : goal.returns-clause-assembles
returns-clause-assembles c = λ five.
    assembles_at c.args.command _ _ _ (omega (arith, c.if-command-gt-DRAW.false)) c.deref.ensures.value c.in-Ok.ensures
    (c.run_story-ran.ensures.assembles five)

pub returns-clause-reads : goal.returns-clause-reads
returns-clause-reads c = λ seven.
    reads_at c.args.command _ _ _ (omega (arith, c.if-command-gt-DRAW.false)) c.deref.ensures.value c.in-Ok.ensures
    (c.run_story-ran.ensures.reads seven)
