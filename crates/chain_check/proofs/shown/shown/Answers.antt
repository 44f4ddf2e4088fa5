use Rattle.std.proofs.Common.{◌≡◌, ◌+◌, ◌≤◌, ℕ, List, refl, sym, ap, ◌∙◌, subst, arith}
use Rattle.std.specs.Prelude.{max, Option, Some, None, IfSome}
use Rattle.chain_check.specs.declared.readies.Leading.{Leading}
use Rattle.message_defs.specs.Statements as plain
use Rattle.group_defs.specs.Process.{Setting, Pool, keyed}
use Rattle.group_defs.specs.Views.{View}
use Rattle.chain_defs.specs.Advance.{counted}
use Rattle.chain_check.specs.Readies.{IsLeading, shown_by}
use Rattle.chain_check.proofs.Least.{Below, led-at, nobody-at, nothing-below, shows-few, shows-next}
use Rattle.chain_check.proofs.shown.shown.Goals as goal
use Rattle.chain_check.proofs.shown.shown.Goals.{then-count-most, else-count-most}

pub loop-rank-init : goal.loop-rank-init
loop-rank-init c = (λ s cs k table. nothing-below s (counted s c.args.view.now cs), omega arith)

pub loop-rank-preserved-in_default : goal.loop-rank-preserved-in_default
loop-rank-preserved-in_default c = (
  λ s cs k table. nobody-at s (counted s c.args.view.now cs) c.loop-rank.rank c.loop-rank.most c.members-members.ensures.within.1.some
      (c.loop-rank.invariant.0 s cs k table)
      (subst (IsLeading (counted s c.args.view.now cs) c.loop-rank.rank) c.in_default.is
      (c.leading.ensures.leads (counted s c.args.view.now cs) refl table)),
  c.loop-rank.invariant.1,
)

pub returns-in-Some-decided : goal.returns-in-Some-decided
returns-in-Some-decided c = λ s cs k range table.
    shows-next s c.args.view.now cs c.loop-rank.rank c.loop-rank.most c.in-Some.leading c.in-Some-decided.next
    c.members-members.ensures.within.1.some c.loop-rank-test.true (c.loop-rank.invariant.0 s cs k table)
    (subst (IsLeading (counted s c.args.view.now cs) c.loop-rank.rank) c.in-Some.is
    (c.leading.ensures.leads (counted s c.args.view.now cs) refl table))
    (sym (subst (λ ks. c.decided.result ≡ shown_by ks c.args.view.now c.in-Some.leading) k c.decided.ensures) ∙ c.in-Some-decided.is)

pub loop-rank-preserved : goal.loop-rank-preserved
loop-rank-preserved c = elim c.if-count-most.branch [
  | then-count-most w ↦ (
    λ s cs k table.
        let lead = subst (IsLeading (counted s c.args.view.now cs) c.loop-rank.rank) c.in-Some.is
        (c.leading.ensures.leads (counted s c.args.view.now cs) refl table) in
        let most' : max c.loop-rank.most c.in-Some.leading.count ≡ c.if-count-most.most = omega (arith, w.most-is, w.if-count-most.true) in
        subst (λ m. Below s (counted s c.args.view.now cs) (c.loop-rank.rank + 1) m) most'
        (led-at s (counted s c.args.view.now cs) c.loop-rank.rank c.loop-rank.most c.in-Some.leading c.members-members.ensures.within.1.some
        (c.loop-rank.invariant.0 s cs k table) lead
        (sym (subst (λ ks. c.decided.result ≡ shown_by ks c.args.view.now c.in-Some.leading) k c.decided.ensures) ∙ c.in_default-decided.is)),
    (let few = subst (λ (o : Option Leading). IfSome o (λ l. l.count ≤ 16)) c.in-Some.is c.leading.ensures.few in
        omega (arith, w.most-is, few, c.loop-rank.invariant.1)),
  )
  | else-count-most w ↦ (
    λ s cs k table.
        let lead = subst (IsLeading (counted s c.args.view.now cs) c.loop-rank.rank) c.in-Some.is
        (c.leading.ensures.leads (counted s c.args.view.now cs) refl table) in
        let most' : max c.loop-rank.most c.in-Some.leading.count ≡ c.if-count-most.most = omega (arith, w.most-is, w.if-count-most.false) in
        subst (λ m. Below s (counted s c.args.view.now cs) (c.loop-rank.rank + 1) m) most'
        (led-at s (counted s c.args.view.now cs) c.loop-rank.rank c.loop-rank.most c.in-Some.leading c.members-members.ensures.within.1.some
        (c.loop-rank.invariant.0 s cs k table) lead
        (sym (subst (λ ks. c.decided.result ≡ shown_by ks c.args.view.now c.in-Some.leading) k c.decided.ensures) ∙ c.in_default-decided.is)),
    (let few = subst (λ (o : Option Leading). IfSome o (λ l. l.count ≤ 16)) c.in-Some.is c.leading.ensures.few in
        omega (arith, w.most-is, few, c.loop-rank.invariant.1)),
  )
]

pub returns : goal.returns
returns c = λ s cs k range table.
    let all : c.loop-rank.rank ≡ 16 = omega (arith, c.loop-rank-test.false, c.loop-rank.auto.rank-end) in
    shows-few s c.args.view.now cs c.loop-rank.most range
    (subst (λ r. Below s (counted s c.args.view.now cs) r c.loop-rank.most) all (c.loop-rank.invariant.0 s cs k table))
