use Rattle.std.proofs.Common.{rules, refl, length, map, ap, ◌∙◌, arith, ℕ}
use borrow.Author.Tests.{tests}
use Rattle.std.specs.List.{list_all, range_with_len}
use Rattle.std.proofs.lemmas.Iterator.{YieldsList-from_range}
use Rattle.std.proofs.lemmas.Iterator.Search.{all_from_yields_List}
use Rattle.group_defs.specs.Accounts.{agrees_in, group_of}
use Rattle.accounts.specs.Views.{account}
use Rattle.group_questions.proofs.agreement.agrees_throughout.Goals as goal

pub returns : goal.returns
returns c =
    all_from_yields_List (agrees_in (group_of (map account c.args.accounts.now)) (account c.args.a.now)) _ _ _ c.all.ensures.ran
    (YieldsList-from_range 0 (length c.as_slice-views.result.now) (length c.as_slice-views.result.now) refl (omega arith))
    (λ x b q k. search (rules, tests))
    ∙ ap (λ (n : ℕ). list_all (agrees_in (group_of (map account c.args.accounts.now)) (account c.args.a.now)) (range_with_len 0 n))
    (ap length c.as_slice-views.ensures.value)
