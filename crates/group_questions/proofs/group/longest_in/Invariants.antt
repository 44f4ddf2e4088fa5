use Rattle.std.proofs.Common.{◌≡◌, map, take}
use Rattle.group_defs.specs.Accounts.{longest, delivered_in}
use Rattle.accounts.specs.Views.{account, delivery}
use Rattle.group_questions.proofs.group.longest_in.Given as goal

abbrev pub invariant-loop-a : goal.invariant-loop-a
invariant-loop-a l = map delivery l.longest ≡ longest (map (λ a. delivered_in (account a) l.x) (take l.a-index l.accounts))
