use Rattle.std.proofs.Common.{rules, map, sym, ◌∙◌}
use borrow.Author.Tests.{tests}
use Rattle.std.proofs.lemmas.Iterator.{YieldsList-from_slice}
use Rattle.std.proofs.lemmas.Iterator.Search.{all_from_yields_List}
use Rattle.std.proofs.lemmas.List.Folds.{list_all-map}
use Rattle.group_defs.specs.Accounts.{group_of, is_accepted}
use Rattle.accounts.specs.declared.account.Account.{Account}
use Rattle.accounts.specs.Views.{account}
use Rattle.sound_question.proofs.acceptance.are_accepted.Goals as goal

pub returns : goal.returns
returns c =
    all_from_yields_List (λ (a : Account). is_accepted (group_of (map account c.args.accounts.now)) (account a)) _ _ _ c.all.ensures.ran
    (YieldsList-from_slice c.args.accounts.now cc) (λ x b q k. search (rules, tests))
    ∙ sym (list_all-map (is_accepted (group_of (map account c.args.accounts.now))) account c.args.accounts.now)
