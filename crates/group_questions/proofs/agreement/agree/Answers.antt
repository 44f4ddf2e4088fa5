use Rattle.std.proofs.Common.{map, sym, ◌∙◌}
use Rattle.std.proofs.lemmas.List.Folds.{list_all-map}
use Rattle.group_defs.specs.Accounts.{agrees_with, group_of}
use Rattle.accounts.specs.Views.{account}
use Rattle.group_questions.proofs.agreement.agree.Goals as goal

pub returns : goal.returns
returns c = c.all_agree.ensures ∙ sym (list_all-map (agrees_with (group_of (map account c.args.accounts.now))) account c.args.accounts.now)
