use Rattle.std.proofs.Common.{◌<◌, [], ◌∷◌, ◌++◌, ap, ◌∙◌, arith, lit<}
use Rattle.std.proofs.lemmas.List.FromFn.{length-range_with_len}
use Rattle.kit_defs.specs.KitMaking.{first_numbers}
use Rattle.kit_making.proofs.Made.{first_more}
use Rattle.kit_making.proofs.making.make_genesis.Goals as goal

pub push-requires : goal.push-requires
push-requires c = let low : c.loop-p.p < 16 = omega arith in (lit< tt, rw (c.loop-p.invariant, length-range_with_len) low)

pub loop-p-preserved : goal.loop-p-preserved
loop-p-preserved c =
    c.push.ensures.items ∙ ap (λ xs. xs ++ c.process.result ∷ []) c.loop-p.invariant ∙ ap
    (λ p. first_numbers c.loop-p.p ++ p ∷ []) c.process.ensures ∙ first_more c.loop-p.p
