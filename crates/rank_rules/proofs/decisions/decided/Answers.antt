use Rattle.std.proofs.Common.{◌∙◌, None, ap, sym}
use Rattle.std.specs.Prelude.{is_some, option_and_then}
use Rattle.group_defs.specs.Settle.{decided_at}
use Rattle.stmt_codec.specs.Views.{report}
use Rattle.rule_laws.proofs.Settled.{decided_is}
use Rattle.rank_rules.proofs.Unheard.{undecided}
use Rattle.rank_rules.proofs.decisions.decided.Goals as goal

pub returns-in_err-rank : goal.returns-in_err-rank
returns-in_err-rank c s keys =
    ap report c.from_residual.ensures
    ∙ sym (decided_is s c.args.pool.now.pool c.deciding_rank.result (c.deciding_rank.ensures s keys) ∙ ap
    (option_and_then (decided_at s c.args.pool.now.pool)) c.in_err-rank.was)

pub returns : goal.returns
returns c s keys =
    c.decided_at.ensures s keys
    ∙ sym (decided_is s c.args.pool.now.pool c.deciding_rank.result (c.deciding_rank.ensures s keys) ∙ ap
    (option_and_then (decided_at s c.args.pool.now.pool)) c.in_ok-rank.was)

pub returns-then-not-hears : goal.returns-then-not-hears
returns-then-not-hears c s keys = sym
    (decided_is s c.args.pool.now.pool None (λ r _ _. ap is_some (undecided c.args.pool.now.pool (sym c.if-not-hears.ensures) s r)))
