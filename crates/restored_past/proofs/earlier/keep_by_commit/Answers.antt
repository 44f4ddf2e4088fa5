use Rattle.std.proofs.Common.{◌≡◌, ◌∙◌, ap, subst}
use Rattle.std.specs.Prelude.{Ok, Err}
use Rattle.std.proofs.lemmas.Result.{IfOk-weaker}
use Rattle.group_defs.specs.Views.{View, next, next_view}
use Rattle.claim_index.specs.Kept.{empty_pool}
use Rattle.rp_base.specs.Views.{update}
use Rattle.snapshot_rp.specs.Views.{left_view}
use Rattle.view_table.specs.Views.{fault}
use Rattle.restored_past.proofs.Following.{never-refused, next-is}
use Rattle.restored_past.proofs.earlier.keep_by_commit.Goals as goal

pub returns-in-Err-clause-exact : goal.returns-in-Err-clause-exact
returns-in-Err-clause-exact c s is =
    absurd (never-refused s c.args.pool.now.pool.view (left_view c.args.left.now) is (fault c.in-Err.field-0)
    (subst (λ (v : View). next v (update c.args.left.now.value.update) ≡ Err (fault c.in-Err.field-0)) c.view.ensures c.in-Err.ensures.refused))

pub returns-in-Err-clause-commits : goal.returns-in-Err-clause-commits
returns-in-Err-clause-commits c s is =
    absurd (never-refused s c.args.pool.now.pool.view (left_view c.args.left.now) is (fault c.in-Err.field-0)
    (subst (λ (v : View). next v (update c.args.left.now.value.update) ≡ Err (fault c.in-Err.field-0)) c.view.ensures c.in-Err.ensures.refused))

pub returns-in-Ok-clause-next : goal.returns-in-Ok-clause-next
returns-in-Ok-clause-next c =
    let follows = subst (λ (v : View). next v (update c.args.left.now.value.update) ≡ Ok c.in-Ok.following) c.view.ensures c.in-Ok.ensures.follows in
    IfOk-weaker c.keep_by.result _ _ (λ b so ok. so ok
    ∙ ap empty_pool (next-is c.args.pool.now.pool.view (update c.args.left.now.value.update) c.in-Ok.following follows)) c.keep_by.ensures.next
