use Rattle.std.proofs.Common.{sym, ◌∙◌}
use Rattle.story_lines.specs.Cursors.{left}
use Rattle.story_lines.proofs.Named.{none_left, none_named, one_named}
use Rattle.story_lines.proofs.words.Words.next_named.Goals as goal

pub returns-in_err-next-clause-names : goal.returns-in_err-next-clause-names
returns-in_err-next-clause-names c = none_left
    (left c.args.self.now) c.from_residual.result c.from_residual.ensures c.in_err-next.ensures.steps.0

pub returns-in_err-p-clause-names : goal.returns-in_err-p-clause-names
returns-in_err-p-clause-names c = none_named
    (left c.args.self.now) _ _ c.from_residual-in_err-p.result c.from_residual-in_err-p.ensures c.in_ok-next.ensures.steps
    (sym c.process.ensures ∙ c.in_err-p.was)

pub returns-clause-names : goal.returns-clause-names
returns-clause-names c = one_named (left c.args.self.now) _ _ c.in_ok-p.p c.in_ok-next.ensures.steps (sym c.process.ensures ∙ c.in_ok-p.was)
