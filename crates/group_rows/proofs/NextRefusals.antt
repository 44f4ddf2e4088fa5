-- The row of specs/NextRefusals.antt, computed.
use Rattle.std.proofs.Common.{◌≡◌, refl, [], ◌∷◌, Some}
use Rattle.std.specs.List.{range_with_len}
use Rattle.message_defs.specs.Updates.{Remove, Add, Renew}
use Rattle.group_defs.specs.Views.{ViewsSpent, AlreadyMember, GroupFull, NotMember, LastMember, next_fault, next_view}
use Rattle.group_rows.specs.NextRefusals.{view, four, NextRefusals}

already : next_fault (view 0 four) (Add 2) ≡ Some AlreadyMember
already = refl

full : next_fault (view 0 (range_with_len 0 16)) (Add 20) ≡ Some GroupFull
full = refl

stranger : next_fault (view 0 (0 ∷ [])) (Remove 5) ≡ Some NotMember
stranger = refl

last : next_fault (view 0 (0 ∷ [])) (Remove 0) ≡ Some LastMember
last = refl

spent : next_fault (view 1023 four) Renew ≡ Some ViewsSpent
spent = refl

spent_first : next_fault (view 1023 four) (Add 2) ≡ Some ViewsSpent
spent_first = refl

removed : next_view (view 0 four) (Remove 1) ≡ view 1 (0 ∷ 2 ∷ 3 ∷ [])
removed = refl

added : next_view (view 1 (0 ∷ 2 ∷ 3 ∷ [])) (Add 1) ≡ view 2 (0 ∷ 2 ∷ 3 ∷ 1 ∷ [])
added = refl

renewed : next_view (view 0 four) Renew ≡ view 1 four
renewed = refl

pub next_refusals : NextRefusals
next_refusals = record {
  already = already;
  full = full;
  stranger = stranger;
  last = last;
  spent = spent;
  spent_first = spent_first;
  removed = removed;
  added = added;
  renewed = renewed;
}
