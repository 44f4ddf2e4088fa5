use Rattle.std.proofs.Common.{◌+◌, ◌∙◌, ℕ, Option, sym, subst}
use Rattle.rule_laws.specs.Ending.{IsLeastCut}
use Rattle.ending_rules.proofs.Cuts.{cut-none, cut-some}
use Rattle.ending_rules.proofs.values.cut_with.Goals as goal

pub returns-in-Some : goal.returns-in-Some
returns-in-Some c r at least =
    subst (λ (o : Option ℕ). IsLeastCut c.args.pool.now.pool (r + 1) o) (sym c.lesser_cut.ensures)
    (cut-some c.args.pool.now.pool r c.args.member at c.args.found c.in-Some.length (sym c.end_of.ensures ∙ c.in-Some.is) least)

pub returns-in-None : goal.returns-in-None
returns-in-None c r at least = cut-none c.args.pool.now.pool r c.args.member at c.args.found (sym c.end_of.ensures ∙ c.in-None.is) least
