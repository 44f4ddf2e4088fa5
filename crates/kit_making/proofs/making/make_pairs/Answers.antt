use Rattle.std.proofs.Common.{ℕ, List, ap, ◌∙◌}
use Rattle.kit_defs.specs.KitMaking.{derived_pair}
use Rattle.kit_making.proofs.Made.{own_more, pairs_more}
use Rattle.kit_making.proofs.making.make_pairs.Goals as goal
use Rattle.kit_making.proofs.making.make_pairs.Goals.{then-q-p+in_ok-push, else-q-p}

pub loop-q-preserved : goal.loop-q-preserved
loop-q-preserved c =
    let pair : ℕ → ℕ × List ℕ = λ q. (q, derived_pair c.args.seed.now c.args.p q) in
    elim c.if-q-p.branch [
      | then-q-p+in_ok-push w ↦
          ap (λ v. v.items) w.pairs-is ∙ w.in_ok-push.ensures.items
          ∙ pairs_more c.args.seed.now c.args.p c.loop-q.q w.process.result w.min.result w.max.result w.derive.result c.loop-q.pairs.items
          c.loop-q.invariant w.process.ensures w.derive.ensures w.min.ensures w.max.ensures w.if-q-p.true
      | else-q-p w ↦ ap (λ v. v.items) w.pairs-is ∙ c.loop-q.invariant ∙ own_more pair c.args.p c.loop-q.q w.if-q-p.false
    ]
