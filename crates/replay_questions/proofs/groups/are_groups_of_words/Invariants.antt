use Rattle.std.proofs.Common.{ℕ, Bool, length}
use Rattle.std.specs.List.{AllByRecursion}
use Rattle.message_defs.specs.Claims.{claims_of_groups}
use Rattle.frame_codec.specs.Views.{groups_left}
use Rattle.stmt_codec.specs.Cursor.{given}
use Rattle.replay_questions.specs.Words.{IsWord}
use Rattle.replay_questions.proofs.groups.are_groups_of_words.Given as goal

abbrev pub invariant-groups : goal.invariant-groups
invariant-groups l = (carries : ℕ → Bool) → AllByRecursion (IsWord l.players) (given (claims_of_groups carries (groups_left l.left)))
    → AllByRecursion (IsWord l.players) (given (claims_of_groups carries (groups_left l.fn.groups)))

abbrev pub decreases-groups : goal.decreases-groups
decreases-groups l = length (groups_left l.left)
