use Rattle.std.proofs.Common.{◌<◌, ◌++◌, ◌∷◌, [], ℕ, List, ap, ◌∙◌, arith, lit<}
use Rattle.std.specs.List.{range_with_len}
use Rattle.std.proofs.lemmas.List.FromFn.{length-range_with_len}
use Rattle.schedule_making.proofs.Drawing.{first_more}
use Rattle.schedule_making.proofs.making.genesis.Goals as goal

pub push-requires : goal.push-requires
push-requires c = let low : c.loop-p.p < 16 = omega arith in (lit< tt, rw (c.loop-p.invariant, length-range_with_len) low)

pub loop-p-preserved : goal.loop-p-preserved
loop-p-preserved c =
    c.push.ensures.items ∙ ap (λ (xs : List ℕ). xs ++ c.process.result ∷ []) c.loop-p.invariant ∙ ap
    (λ p. range_with_len 0 c.loop-p.p ++ p ∷ []) c.process.ensures ∙ first_more c.loop-p.p
