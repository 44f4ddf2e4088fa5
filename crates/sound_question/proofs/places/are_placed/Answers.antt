use Rattle.std.proofs.Common.{rules, refl, length, map, ap, ◌∙◌, arith, ℕ}
use borrow.Author.Tests.{tests}
use Rattle.std.specs.List.{list_all, range_with_len}
use Rattle.std.proofs.lemmas.Iterator.{YieldsList-from_range}
use Rattle.std.proofs.lemmas.Iterator.Search.{all_from_yields_List}
use Rattle.group_defs.specs.Accounts.{are_placed_in}
use Rattle.accounts.specs.Views.{account}
use Rattle.sound_question.proofs.places.are_placed.Goals as goal

pub returns : goal.returns
returns c =
    all_from_yields_List (are_placed_in (map account c.args.accounts.now)) _ _ _ c.all.ensures.ran
    (YieldsList-from_range 0 (length c.longest_views-views.result.now) (length c.longest_views-views.result.now) refl (omega arith))
    (λ x b q k. search (rules, tests))
    ∙ ap (λ (n : ℕ). list_all (are_placed_in (map account c.args.accounts.now)) (range_with_len 0 n))
    (ap length c.longest_views-views.ensures)
