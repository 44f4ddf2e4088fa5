use Rattle.std.proofs.Common.{ℕ, List, ◌++◌, sym, ap, ◌∙◌}
use Rattle.replay_defs.specs.Reports.{head_lines}
use Rattle.replay_defs.specs.Worlds.{family_of}
use Rattle.replay_report.proofs.Ending.{report_written}
use Rattle.replay_report.proofs.reporting.report.Goals as goal

pub returns : goal.returns
returns c = λ h v shows.
    report_written c.args.short v (family_of h v) c.in_ok-answers.answers c.push_head.new.out.items c.push_world.new.out.items
    c.push_answers.new.out.items (c.in_ok-answers.ensures h v shows)
    (c.in_ok-push_head.ensures v (sym (c.count.ensures ∙ shows.count)) ∙ ap (λ (xs : List ℕ). xs ++ head_lines v) c.new-out.ensures.items)
    (c.in_ok-push_world.ensures h v shows) c.in_ok-push_answers.ensures
