use Rattle.std.proofs.Common.{◌≡◌, ◌∙◌, ◌+◌, ◌++◌, ℕ, List, [], map, drop, true, false, refl, length, sym, ap, subst}
use Rattle.std.proofs.lemmas.List.{append-nil, drop_all}
use Rattle.message_defs.specs.Packing.{Signed}
use Rattle.group_defs.specs.Views.{View}
use Rattle.group_defs.specs.Process.{Pool}
use Rattle.image_defs.specs.Images.{LeftView, view_behind}
use Rattle.image_defs.specs.Kept.{AreLeft}
use Rattle.reliable_mcast.specs.Certificates.{all_signed}
use Rattle.snapshot_rp.specs.Views.{left_view}
use Rattle.restored_past.proofs.Walked.{behind-so, left-so, commits-so}
use Rattle.restored_past.proofs.earlier.past_before.Goals as goal

pub loop-one-init : goal.loop-one-init
loop-one-init c =
    let at = c.in_ok-pool.ensures.pool in
    let none = c.in_ok-archive.ensures.commits in
    record {
      empty = ap (λ (h : Pool). h.heard) at;
      order = ap (λ (h : Pool). h.view.number) at ∙ c.requires ∙ sym (ap (λ (cs : List (List Signed)). length cs) none);
      behind = ap (λ (h : Pool). view_behind h.view (map left_view c.args.left.now)) at;
      left = λ s all. subst (λ (h : Pool). AreLeft s h.view (map left_view c.args.left.now)) (sym at) all;
      commits = λ s all. ap (λ (cs : List (List Signed)). cs ++ map (λ (l : LeftView). all_signed l.commit) (map left_view c.args.left.now)) none;
    }

pub loop-one-preserved : goal.loop-one-preserved
loop-one-preserved c =
    let ok = c.if-not-is_kept.false in
    let at = c.in_ok-is_kept.ensures.next ok in
    let v : View = c.loop-one.pool.pool.view in
    let w : View = c.keep_by_commit.new.pool.pool.view in
    let follows = ap (λ (h : Pool). h.view) at in
    let inv = c.loop-one.invariant in
    record {
      empty = ap (λ (h : Pool). h.heard) at;
      order = ap (λ (h : Pool). h.view.number) at ∙ ap (λ (n : ℕ). n + 1) inv.order ∙ sym (c.in_ok-is_kept.ensures.more ok);
      behind = behind-so left_view c.args.left.now c.loop-one.one-index c.one-item.result c.loop-one-test.true c.one-item.is v w _ follows inv.behind;
      left = λ s all. (left-so left_view c.args.left.now c.loop-one.one-index c.one-item.result c.loop-one-test.true c.one-item.is s v w follows
          (inv.left s all)).1;
      commits = λ s all. commits-so left_view c.args.left.now c.loop-one.one-index c.one-item.result c.loop-one-test.true c.one-item.is
          c.loop-one.archive.commits c.keep_by_commit.new.archive.commits _
          (c.in_ok-is_kept.ensures.commits s (left-so left_view c.args.left.now c.loop-one.one-index c.one-item.result c.loop-one-test.true
          c.one-item.is s v w follows (inv.left s all)).0) (inv.commits s all);
    }

pub returns-then-not-is_kept-clause-some : goal.returns-then-not-is_kept-clause-some
returns-then-not-is_kept-clause-some c s all =
    let v : View = c.loop-one.pool.pool.view in
    let parts = left-so left_view c.args.left.now c.loop-one.one-index c.one-item.result c.loop-one-test.true c.one-item.is s v _ refl
    (c.loop-one.invariant.left s all) in
    absurd (clash (c.in_ok-is_kept.ensures.exact s parts.0) c.if-not-is_kept.true)
  where
    clash : {b : _} → b ≡ true → b ≡ false → ⊥
    clash e f = cc

pub returns-clause-view : goal.returns-clause-view
returns-clause-view c =
    c.copied-view.ensures ∙ c.view.ensures
    ∙ ap (λ xs. view_behind c.loop-one.pool.pool.view (map left_view xs)) (sym (drop_all c.loop-one.one-index c.args.left.now c.loop-one-test.false))
    ∙ c.loop-one.invariant.behind

pub returns-clause-number : goal.returns-clause-number
returns-clause-number c = ap (λ (v : View). v.number) (c.copied-view.ensures ∙ c.view.ensures) ∙ c.loop-one.invariant.order

pub returns-clause-commits : goal.returns-clause-commits
returns-clause-commits c s all =
    sym (append-nil c.loop-one.archive.commits)
    ∙ ap (λ xs. c.loop-one.archive.commits ++ map (λ (l : LeftView). all_signed l.commit) (map left_view xs))
    (sym (drop_all c.loop-one.one-index c.args.left.now c.loop-one-test.false))
    ∙ c.loop-one.invariant.commits s all
