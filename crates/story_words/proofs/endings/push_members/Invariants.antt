use Rattle.std.proofs.Common.{◌≡◌, ◌++◌, ◌∷◌, map, take}
use Rattle.std.specs.List.{flat_map}
use Rattle.text_defs.specs.Words.{space}
use Rattle.std.specs.Fmt.{decimal}
use Rattle.story_words.proofs.endings.push_members.Given as goal

abbrev pub invariant-loop-member : goal.invariant-loop-member
invariant-loop-member l = l.out.items ≡ l.fn.out.items ++ flat_map (λ w. space ∷ w) (map decimal (take l.member-index l.members))
