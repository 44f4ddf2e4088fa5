use Rattle.std.proofs.Common.{◌≡◌, ◌∙◌, ◌+◌, List, [], length, sym, ap, subst, refl, arith}
use Rattle.std.specs.List.{AllByRecursion}
use Rattle.std.proofs.lemmas.Result.{IfOk-weaker}
use Rattle.message_defs.specs.Statements.{Claim, Ready}
use Rattle.message_defs.specs.Spelling.{IsClaim}
use Rattle.message_defs.specs.Packing.{Signed}
use Rattle.group_defs.specs.Views.{View, IsView}
use Rattle.group_defs.specs.Process.{Pool}
use Rattle.group_defs.specs.Certified.{certificate}
use Rattle.rp_base.specs.Views.{value}
use Rattle.reliable_mcast.specs.Certificates.{all_signed}
use Rattle.pool_laws.proofs.Places.{length-snoc}
use Rattle.snapshot_rp.specs.Views.{left_view}
use Rattle.restored_past.specs.Hearing.{with_all}
use Rattle.restored_past.proofs.Following.{if-two, kept-commit, ready-there}
use Rattle.restored_past.proofs.earlier.keep_by.Goals as goal

pub keep-requires-clause-range : goal.keep-requires-clause-range
keep-requires-clause-range c = c.in_ok-hear_each.ensures.ranged (subst (λ (cs : List Claim). AllByRecursion IsClaim cs) (sym c.requires.empty) tt)

pub keep-requires-clause-order : goal.keep-requires-clause-order
keep-requires-clause-order c = ap (λ (v : View). v.number) c.in_ok-hear_each.ensures.view ∙ c.requires.order

pub returns-clause-exact : goal.returns-clause-exact
returns-clause-exact c s is =
    let h : Pool = c.args.pool.now.pool in
    let view : IsView h.view = subst IsView c.view-current.ensures c.members-members.ensures.within.1 in
    let heard = c.in_ok-hear_each.ensures.heard ∙ ap (with_all h) c.deref.ensures.value in
    IfOk-weaker c.keep.result _ _
    (λ b both. both.1 (ready-there s h.view view (left_view c.args.left.now) is h c.hear_each.new.pool.pool refl c.requires.empty heard))
    c.keep.ensures.exact

pub returns-clause-commits : goal.returns-clause-commits
returns-clause-commits c s is =
    let h : Pool = c.args.pool.now.pool in
    let view : IsView h.view = subst IsView c.view-current.ensures c.members-members.ensures.within.1 in
    let heard = c.in_ok-hear_each.ensures.heard ∙ ap (with_all h) c.deref.ensures.value in
    if-two _ _ _ c.keep.result c.keep.ensures.exact c.keep.ensures.kept
    (λ b both kept. kept-commit s h.view view (left_view c.args.left.now) is h c.hear_each.new.pool.pool refl c.requires.empty heard
    c.args.archive.now c.keep.new.archive
    (kept (both.1 (ready-there s h.view view (left_view c.args.left.now) is h c.hear_each.new.pool.pool refl c.requires.empty heard))))

pub returns-clause-more : goal.returns-clause-more
returns-clause-more c =
    let g : Pool = c.hear_each.new.pool.pool in
    IfOk-weaker c.keep.result _ _
    (λ b kept ok. (let grown = ap (λ (cs : List (List Signed)). length cs) (kept ok).commits
    ∙ length-snoc c.args.archive.now.commits (all_signed (certificate g (Ready g.view.number c.args.left.now.rank (value c.args.left.now.value)))) in
    omega (arith, grown))) c.keep.ensures.kept
