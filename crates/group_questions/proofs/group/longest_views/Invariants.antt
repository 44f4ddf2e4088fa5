use Rattle.std.proofs.Common.{◌≡◌, map, take}
use Rattle.group_defs.specs.Accounts.{longest}
use Rattle.group_questions.proofs.group.longest_views.Given as goal

abbrev pub invariant-loop-a : goal.invariant-loop-a
invariant-loop-a l = l.longest ≡ longest (map (λ a. a.views.items) (take l.a-index l.accounts))
