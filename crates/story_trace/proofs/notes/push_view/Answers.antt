use Rattle.std.proofs.Common.{ℕ, ◌∷◌, ◌++◌, codes, map, ap, ◌∙◌}
use Rattle.std.specs.Fmt.{decimal}
use Rattle.text_defs.specs.Words.{line_text}
use Rattle.trace_defs.specs.Phrases.{number_and_colon}
use Rattle.trace_defs.specs.Outcomes.{of_process}
use Rattle.story_trace.proofs.notes.push_view.Goals as goal

pub returns : goal.returns
returns c =
    c.in_ok-said_with_members.ensures
    ∙ ap (λ (n : ℕ). c.args.out.now.items
    ++ line_text (of_process c.args.at (codes "installs view" ∷ number_and_colon n ∷ map decimal c.args.members.now))) c.into.ensures
