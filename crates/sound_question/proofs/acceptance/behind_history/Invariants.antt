use Rattle.std.proofs.Common.{◌≡◌, ◌++◌, map}
use Rattle.std.specs.Prelude.{flat_map}
use Rattle.std.specs.List.{range_with_len}
use Rattle.group_defs.specs.Accounts.{group_of}
use Rattle.accounts.specs.Views.{account}
use Rattle.sound_question.specs.Parts.{payloads_of}
use Rattle.sound_question.proofs.acceptance.behind_history.Given as goal

abbrev pub invariant-loop-x : goal.invariant-loop-x
invariant-loop-x l = payloads_of l.a.me (flat_map (group_of (map account l.accounts)).sequence (range_with_len 0 l.x))
    ++ l.left ≡ l.a.accepted.items
