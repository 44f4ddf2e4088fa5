use Rattle.std.proofs.Common.{◌∙◌}
use Rattle.page.proofs.Whole.{no_report, report}
use Rattle.page.proofs.calls.run_replay.Goals as goal

pub returns-clause-made : goal.returns-clause-made
returns-clause-made c = λ zero.
    report c.args.short _ _ _ _ _ c.new-input.ensures.left c.new-reported.ensures.bytes (c.run_replay-status.ensures.done zero)

pub returns-clause-silent : goal.returns-clause-silent
returns-clause-silent c = λ one. c.run_replay-status.ensures.silent one ∙ c.new-reported.ensures.bytes

pub returns-clause-none : goal.returns-clause-none
returns-clause-none c = λ seven.
    no_report _ _ _ _ _ _ _ c.new-input.ensures.left c.new-reported.ensures.bytes (c.run_replay-status.ensures.input seven)
