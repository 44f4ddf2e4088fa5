use Rattle.std.proofs.Common.{rules, length, ◌∙◌, arith}
use borrow.Author.Tests.{tests}
use Rattle.std.proofs.lemmas.Iterator.{YieldsList-from_slice, YieldsList-from_zip}
use Rattle.std.proofs.lemmas.Iterator.Search.{all_from_yields_List}
use Rattle.byte_defs.specs.Equality.{is_yes}
use Rattle.group_defs.specs.Process.{Letter-discrete, letter_of}
use Rattle.accounts.specs.Views.{delivery}
use Rattle.group_questions.proofs.Fronts.{letters-front, letters-too_long, not-le}
use Rattle.group_questions.proofs.agreement.are_first_letters.Goals as goal

pub returns-then-own-all : goal.returns-then-own-all
returns-then-own-all c =
    all_from_yields_List {s = c.zip.result}
    (λ p. is_yes (Letter-discrete (letter_of (delivery p.0)) (letter_of (delivery p.1)))) c.all.new.self _ _ c.all.ensures.ran
    (YieldsList-from_zip (YieldsList-from_slice c.args.own.now cc) (YieldsList-from_slice c.args.all.now cc))
    (λ x b q k. search (rules, tests))
    ∙ letters-front c.args.own.now c.args.all.now (omega arith)

pub returns-else-own-all : goal.returns-else-own-all
returns-else-own-all c = not-le (length c.args.own.now) (length c.args.all.now)
    (omega arith) ∙ letters-too_long c.args.own.now c.args.all.now (omega arith)
