use Rattle.std.proofs.Common.{◌≡◌, ◌∙◌, ap, length, subst, true, false}
use Rattle.std.specs.Prelude.{◌&&◌, nat_le}
use Rattle.group_defs.specs.Views.{View, IsView}
use Rattle.group_defs.specs.Process.{Pool}
use Rattle.snapshot_rp.specs.Views.{left_view}
use Rattle.restored_past.specs.Keeping.{are_kept_at}
use Rattle.restored_past.proofs.Same.{last-is, uncertified}
use Rattle.restored_past.proofs.last.keep_last.Goals as goal

pub returns-then-not-is_left-clause-exact : goal.returns-then-not-is_left-clause-exact
returns-then-not-is_left-clause-exact c s is =
    let h : Pool = c.args.pool.pool in
    let view : IsView h.view = subst IsView c.view-current.ensures c.members-members.ensures.within.1 in (
      λ no_way. absurd cc,
      λ same. absurd (uncertified s h view (left_view c.args.left.now) is c.args.archive.now.commits h.view.number c.requires.order
          (λ certified. clash (c.in_ok-is_left.ensures.exact.1 certified) c.if-not-is_left.true) same),
    )
  where
    clash : {b : _} → b ≡ true → b ≡ false → ⊥
    clash e f = cc

pub returns-clause-exact : goal.returns-clause-exact
returns-clause-exact c s is =
    let h : Pool = c.args.pool.pool in
    let view : IsView h.view = subst IsView c.view-current.ensures c.members-members.ensures.within.1 in
    let number : c.number-number.result ≡ h.view.number = c.number-number.ensures.value ∙ ap (λ (v : View). v.number) c.view-current.ensures in
    last-is s h view (left_view c.args.left.now) is c.args.archive.now.commits c.number-number.result (number ∙ c.requires.order)
    c.is_commit.result c.keep.new.archive.commits (c.in_ok-is_left.ensures.exact.0 c.if-not-is_left.false)
    (c.in_ok-is_left.ensures.kept c.if-not-is_left.false).commits
    (c.is_commit.ensures ∙ (λ i. nat_le (length (c.deref.ensures.value i)) 16
    && are_kept_at c.keep.new.archive.commits c.number-number.result 0 (c.deref.ensures.value i)))
