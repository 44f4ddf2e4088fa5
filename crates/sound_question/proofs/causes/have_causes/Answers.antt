use Rattle.std.proofs.Common.{rules, map, ap, ◌∙◌}
use borrow.Author.Tests.{tests}
use Rattle.std.specs.List.{list_all}
use Rattle.std.proofs.lemmas.Iterator.{YieldsList-from_slice, YieldsList-from_zip}
use Rattle.std.proofs.lemmas.Iterator.Adapters.{YieldsList-from_skip}
use Rattle.std.proofs.lemmas.Iterator.Search.{all_from_yields_List}
use Rattle.group_defs.specs.Accounts.{has_cause}
use Rattle.accounts.specs.Views.{account}
use Rattle.sound_question.proofs.Lists.{zip-neighbours}
use Rattle.sound_question.proofs.causes.have_causes.Goals as goal

pub returns : goal.returns
returns c =
    all_from_yields_List {s = c.zip.result} (has_cause (map account c.args.accounts.now) c.args.keyed) c.all.new.self _ _ c.all.ensures.ran
    (YieldsList-from_zip (YieldsList-from_slice c.args.views.now cc)
    (YieldsList-from_skip 1 (YieldsList-from_slice c.args.views.now cc) cc)) (λ x b q k. search (rules, tests))
    ∙ ap (list_all (has_cause (map account c.args.accounts.now) c.args.keyed)) (zip-neighbours c.args.views.now)
