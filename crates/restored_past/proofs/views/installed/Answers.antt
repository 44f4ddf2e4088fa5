use Rattle.std.proofs.Common.{◌≡◌, ◌∙◌, ◌++◌, [], ◌∷◌, map, drop, refl, sym, ap, subst}
use Rattle.std.proofs.lemmas.List.{drop_all}
use Rattle.group_defs.specs.Views.{View, next_view}
use Rattle.rp_base.specs.Views.{update}
use Rattle.snapshot_rp.specs.Views.{left_view}
use Rattle.restored_past.specs.Installed.{installed_from}
use Rattle.restored_past.proofs.Following.{never-refused, next-is}
use Rattle.restored_past.proofs.Walked.{left-so, views-so}
use Rattle.restored_past.proofs.views.installed.Goals as goal

pub loop-one-preserved : goal.loop-one-preserved
loop-one-preserved c =
    let v : View = c.loop-one.view in
    let w : View = c.in-Ok.following in
    let follows = next-is v (update c.one-item.result.value.update) w c.in-Ok.ensures.follows in (
      views-so left_view c.args.left.now c.loop-one.one-index c.one-item.result c.loop-one-test.true c.one-item.is c.loop-one.views.items _ v w _
          c.in_ok-push.ensures.items follows c.loop-one.invariant.0,
      λ s all. (left-so left_view c.args.left.now c.loop-one.one-index c.one-item.result c.loop-one-test.true c.one-item.is s v w follows
          (c.loop-one.invariant.1 s all)).1,
    )

pub returns-in_default-clause-some : goal.returns-in_default-clause-some
returns-in_default-clause-some c s all =
    let v : View = c.loop-one.view in
    let parts = left-so left_view c.args.left.now c.loop-one.one-index c.one-item.result c.loop-one-test.true c.one-item.is s v _ refl
    (c.loop-one.invariant.1 s all) in
    absurd (never-refused s v (left_view c.one-item.result) parts.0 _ c.in_default.ensures.refused)

pub returns-clause-views : goal.returns-clause-views
returns-clause-views c =
    c.in_ok-push-2.ensures.items
    ∙ ap (λ xs. c.loop-one.views.items ++ installed_from c.loop-one.view (map left_view xs))
    (sym (drop_all c.loop-one.one-index c.args.left.now c.loop-one-test.false))
    ∙ c.loop-one.invariant.0
