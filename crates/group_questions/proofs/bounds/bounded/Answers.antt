use Rattle.std.proofs.Common.{length, sym, ◌∙◌, nat_le}
use Rattle.std.specs.List.{list_all}
use Rattle.std.proofs.lemmas.List.Folds.{list_all-map}
use Rattle.group_defs.specs.Views.{faulty}
use Rattle.group_defs.specs.Accounts as reported
use Rattle.accounts.specs.Views.{account}
use Rattle.group_questions.proofs.bounds.bounded.Goals as goal

pub returns : goal.returns
returns c =
    c.all_bounded.ensures
    ∙ sym (list_all-map (λ (a : reported.Account). list_all
    (λ v. nat_le (reported.corrupt_in c.args.correct v) (faulty (length v.members))) a.views) account c.args.accounts.now)
