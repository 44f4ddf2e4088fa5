use Rattle.std.proofs.Common.{◌∙◌, ℕ, ap, sym, refl, false}
use Rattle.std.specs.Prelude.{option_map}
use Rattle.message_defs.specs.Statements.{Statement, Suggest}
use Rattle.group_defs.specs.Process.{Suggests}
use Rattle.group_defs.specs.Values.{choose}
use Rattle.rank_rules.specs.Open.{is_suggest_open}
use Rattle.rp_base.specs.declared.updates.Value.{Value}
use Rattle.rp_base.specs.Views.{value}
use Rattle.ending_rules.proofs.Telling.{outside}
use Rattle.rank_rules.proofs.Ranking.{suggest-is}
use Rattle.rank_rules.proofs.Unheard.{in-no-case}
use Rattle.rank_rules.proofs.suggests.next_suggest.Goals as goal

pub returns-in_err-rank : goal.returns-in_err-rank
returns-in_err-rank c pool s p tells =
    let made : ℕ × Value → Statement = λ v. Suggest c.args.pool.now.pool.view.number v.0 (value v.1) in
    outside s p c.args.pool.now.pool c.args.own.now tells Suggests c.in_err-rank.was ∙ ap (option_map made) (sym c.from_residual.ensures)

pub returns-then-not-is_open : goal.returns-then-not-is_open
returns-then-not-is_open c pool s p tells = suggest-is s p c.args.pool.now.pool c.args.own.now tells c.in_ok-rank.rank c.in_ok-rank.was
    false c.if-not-is_open.ensures

pub returns-then-not-may_choose : goal.returns-then-not-may_choose
returns-then-not-may_choose c pool s p tells =
    let h = c.args.pool.now.pool in
    let rank = c.in_ok-rank.rank in
    suggest-is s p h c.args.own.now tells rank c.in_ok-rank.was (is_suggest_open h c.args.own.now rank) refl
    ∙ in-no-case (is_suggest_open h c.args.own.now rank) (option_map (Suggest h.view.number rank) (choose s h rank))
    (ap (option_map (Suggest h.view.number rank)) (c.if-not-may_choose.ensures pool s rank))
