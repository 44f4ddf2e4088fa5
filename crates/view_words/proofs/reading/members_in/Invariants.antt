use Rattle.std.proofs.Common.{◌≡◌, ◌≢◌, ◌+◌, ◌≤◌, [], length}
use Rattle.std.specs.Prelude.{AllPairs}
use Rattle.text_codec.specs.Views.{parts_left}
use Rattle.kit_defs.specs.KitReading.{members_by}
use Rattle.view_words.proofs.reading.members_in.Given as goal

abbrev pub invariant-members : goal.invariant-members
invariant-members l = record {
  so_far : members_by l.members.items (parts_left l.words) ≡ members_by [] (parts_left l.fn.words);
  count : length l.members.items + length (parts_left l.words) ≡ length (parts_left l.fn.words);
  most : length l.members.items ≤ 16;
  distinct : AllPairs (λ m n. m ≢ n) l.members.items;
}

abbrev pub decreases-members : goal.decreases-members
decreases-members l = length (parts_left l.words)
