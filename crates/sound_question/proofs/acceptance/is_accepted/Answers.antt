use Rattle.std.proofs.Common.{ℕ, List, Bor, map, ◌∙◌}
use Rattle.group_defs.specs.Accounts.{group_of, history}
use Rattle.accounts.specs.Views.{account}
use Rattle.sound_question.specs.Parts.{payloads_of}
use Rattle.sound_question.proofs.Behind.{is-front}
use Rattle.sound_question.proofs.acceptance.is_accepted.Goals as goal

pub returns : goal.returns
returns c =
    c.is_some.ensures
    ∙ is-front (λ (rest : Bor (List (List ℕ))). rest.now)
    (payloads_of c.args.a.now.me (history
    (group_of (map account c.args.accounts.now)))) c.args.a.now.accepted.items c.behind_history.result c.behind_history.ensures
