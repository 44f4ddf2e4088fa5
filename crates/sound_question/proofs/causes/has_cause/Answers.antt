use Rattle.std.proofs.Common.{rules, ◌∙◌}
use borrow.Author.Tests.{tests}
use Rattle.std.proofs.lemmas.Iterator.{YieldsList-from_slice}
use Rattle.std.proofs.lemmas.Iterator.Search.{any_from_yields_List}
use Rattle.sound_question.proofs.Perceived.{cause-by, leads}
use Rattle.sound_question.proofs.causes.has_cause.Goals as goal

pub returns : goal.returns
returns c =
    any_from_yields_List (leads c.args.keyed c.args.v.now c.args.w.now) _ _ _ c.any.ensures.ran
    (YieldsList-from_slice c.args.accounts.now cc) (λ x b q k. search (rules, tests))
    ∙ cause-by c.args.keyed c.args.v.now c.args.w.now c.args.accounts.now
