use Rattle.std.proofs.Common.{◌∙◌, ◌≤◌, Some, None, length, subst, sym}
use Rattle.message_defs.specs.Statements.{Batch}
use Rattle.pool_laws.proofs.Tests.{some-same}
use Rattle.multicast_rules.proofs.Ordering.{order-due, no-order}
use Rattle.multicast_rules.proofs.orders.order_due.Goals as goal

pub returns-then-not-may_order : goal.returns-then-not-may_order
returns-then-not-may_order c = λ s p pool tells limit. no-order s p (sym (c.if-not-may_order.ensures s p tells))

pub returns-in_err-batch : goal.returns-in_err-batch
returns-in_err-batch c = λ s p pool tells limit.
    rw c.from_residual.ensures
    (order-due s p c.args.pool.now.pool c.args.own.now c.args.batch_limit None tells limit (sym (c.if-not-may_order.ensures s p tells))
    (λ before is. c.in_err-batch.ensures.next pool before (c.deref_mut.ensures.value ∙ c.copied-counts.ensures ∙ c.deref.ensures.0 ∙ is))
    (λ b e. absurd cc))

pub returns : goal.returns
returns c = λ s p pool tells limit.
    order-due s p c.args.pool.now.pool c.args.own.now c.args.batch_limit (Some c.in_ok-batch.batch) tells limit
    (sym (c.if-not-may_order.ensures s p tells))
    (λ before is. c.in_ok-batch.ensures.next pool before (c.deref_mut.ensures.value ∙ c.copied-counts.ensures ∙ c.deref.ensures.0 ∙ is))
    (λ b e. subst (λ (b : Batch). 1 ≤ length b) (some-same c.in_ok-batch.batch b e) c.in_ok-batch.ensures.some)
