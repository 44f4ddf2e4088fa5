use Rattle.std.proofs.Common.{◌∙◌, ℕ, [], ◌∷◌, ◌++◌, ap}
use Rattle.restored_place.proofs.Mapped.{map-more}
use Rattle.restored_place.proofs.delivered.counts_of.Goals as goal

pub loop-member-preserved : goal.loop-member-preserved
loop-member-preserved c =
    map-more _ c.members-member-items.result.now c.loop-member.member-index c.member-item.result c.loop-member.counts.items _
    c.loop-member-test.true c.member-item.is c.loop-member.invariant
    (c.push.ensures.items ∙ ap (λ (n : ℕ). c.loop-member.counts.items ++ n ∷ []) c.count_from.ensures.value)
