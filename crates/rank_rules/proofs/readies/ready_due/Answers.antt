use Rattle.std.proofs.Common.{◌∙◌, ℕ, Option, None, ap, sym}
use Rattle.std.specs.Prelude.{◌&&◌, is_some, nat_le, not, option_and_then, option_map}
use Rattle.message_defs.specs.Statements.{Statement, Ready, ReadyAt}
use Rattle.own_place.specs.Signed.{has_slot}
use Rattle.group_defs.specs.Process.{Readies}
use Rattle.rp_base.specs.declared.updates.Value.{Value}
use Rattle.rp_base.specs.Views.{value}
use Rattle.rule_laws.specs.Ranks.{acked}
use Rattle.ending_rules.proofs.Telling.{outside}
use Rattle.rank_rules.proofs.Ranking.{ready-is}
use Rattle.rank_rules.proofs.Unheard.{unacked}
use Rattle.rank_rules.proofs.readies.ready_due.Goals as goal

pub returns-in_err-own : goal.returns-in_err-own
returns-in_err-own c pool s p tells =
    let made : ℕ × Value → Statement = λ r. Ready c.args.pool.now.pool.view.number r.0 (value r.1) in
    outside s p c.args.pool.now.pool c.args.own.now tells Readies c.in_err-own.was ∙ ap (option_map made) (sym c.from_residual.ensures)

pub returns-in_err-rank : goal.returns-in_err-rank
returns-in_err-rank c pool s p tells =
    let h = c.args.pool.now.pool in
    let made : ℕ × Value → Statement = λ r. Ready h.view.number r.0 (value r.1) in
    let at_rank : ℕ → Option Statement = λ r. option_map (Ready h.view.number r) (acked h r) in
    ready-is s p h c.args.own.now tells pool c.in_ok-own.field-0 c.in_ok-own.was c.open_rank.result c.open_rank.ensures
    ∙ ap (option_and_then at_rank) c.in_err-rank.was
    ∙ ap (option_map made) (sym c.from_residual-in_err-rank.ensures)

pub returns : goal.returns
returns c pool s p tells =
    let h = c.args.pool.now.pool in
    let at_rank : ℕ → Option Statement = λ r. option_map (Ready h.view.number r) (acked h r) in
    ready-is s p h c.args.own.now tells pool c.in_ok-own.field-0 c.in_ok-own.was c.open_rank.result c.open_rank.ensures
    ∙ ap (option_and_then at_rank) c.in_ok-rank.was
    ∙ ap (option_map (Ready h.view.number c.in_ok-rank.rank)) (sym c.in_ok-value.ensures)

pub returns-then-not-hears : goal.returns-then-not-hears
returns-then-not-hears c pool s p tells =
    let h = c.args.pool.now.pool in
    ready-is s p h c.args.own.now tells pool c.in_ok-own.field-0 c.in_ok-own.was None
    (λ r _ _. ap (λ o. is_some o && nat_le c.args.own.now.rank r && not (has_slot c.args.own.now.signed (ReadyAt h.view.number r)))
    (unacked h (sym c.if-not-hears.ensures) r))
