use Rattle.std.proofs.Common.{ℕ, ◌+◌, ap, ◌∙◌}
use Rattle.kit_making.proofs.Made.{made_by, pair_is}
use Rattle.kit_making.proofs.making.make_ports.Goals as goal

pub loop-p-preserved : goal.loop-p-preserved
loop-p-preserved c =
    let port : ℕ → ℕ × ℕ = λ p. (p, 47000 + p) in
    c.in_ok-push.ensures.items
    ∙ made_by port c.loop-p.p c.loop-p.ports.items _ c.loop-p.invariant
    (pair_is c.process.result c.loop-p.p _ (47000 + c.loop-p.p) c.process.ensures (ap (λ p. 47000 + p) c.from.ensures))
