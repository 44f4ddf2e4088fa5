use Rattle.std.proofs.Common.{◌∙◌, ◌≤◌, ap, sym, subst, arith}
use Rattle.group_defs.specs.Views.{View, IsView}
use Rattle.group_defs.specs.Process as defs
use Rattle.stmt_codec.specs.Views.{stmt}
use Rattle.claim_pool.proofs.Few.{few-backers}
use Rattle.claim_pool.proofs.pool.Pool.count.Goals as goal

pub overflow_cast-result : goal.overflow_cast-result
overflow_cast-result c =
    let view : IsView c.quorums-quorums.result.now.pool.view = subst (λ (v : View). IsView v)
    (c.view.ensures ∙ ap (λ (h : defs.Pool). h.view) c.claims.ensures) c.members-members.ensures.within.1 in
    let few : c.count.result ≤ 16 = subst (λ n. n ≤ 16) (sym c.count.ensures)
    (few-backers c.quorums-quorums.result.now.pool (stmt c.args.statement.now) view) in
    omega (arith, few)
