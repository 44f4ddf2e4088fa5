use Rattle.std.proofs.Common.{◌≡◌, ◌++◌, map, take}
use Rattle.std.specs.List.{flat_map}
use Rattle.member_events.specs.Below.{signed}
use Rattle.picture_defs.specs.Labels.{short_of}
use Rattle.picture_labels.proofs.short.push_all_short.Given as goal

abbrev pub invariant-loop-claim : goal.invariant-loop-claim
invariant-loop-claim l = l.out.items ≡ l.fn.out.items
    ++ flat_map (λ c. short_of c.statement) (map signed (take l.claim-index l.signed))
