use Rattle.std.proofs.Common.{rules, length, ◌∙◌, arith}
use borrow.Author.Tests.{tests}
use Rattle.std.proofs.lemmas.Iterator.{YieldsList-from_slice, YieldsList-from_zip}
use Rattle.std.proofs.lemmas.Iterator.Search.{all_from_yields_List}
use Rattle.byte_defs.specs.Equality.{is_yes}
use Rattle.group_defs.specs.Views.{View-discrete}
use Rattle.group_questions.specs.Letters.{same_view}
use Rattle.group_questions.proofs.Fronts.{not-le, too-long, views-front}
use Rattle.group_questions.proofs.agreement.are_first_views.Goals as goal

pub returns-then-views-all : goal.returns-then-views-all
returns-then-views-all c =
    all_from_yields_List {s = c.zip.result} (λ p. same_view p.0 p.1) c.all.new.self _ _ c.all.ensures.ran
    (YieldsList-from_zip (YieldsList-from_slice c.args.views.now cc) (YieldsList-from_slice c.args.all.now cc))
    (λ x b q k. search (rules, tests))
    ∙ views-front c.args.views.now c.args.all.now (omega arith)

pub returns-else-views-all : goal.returns-else-views-all
returns-else-views-all c = not-le (length c.args.views.now) (length c.args.all.now)
    (omega arith) ∙ too-long (λ v w. is_yes (View-discrete v w)) c.args.views.now c.args.all.now (omega arith)
