use Rattle.std.proofs.Common.{◌≡◌, ◌||◌, ℕ, List, take}
use Rattle.said_index.specs.Said.{is_said, is_among_claims}
use Rattle.said_index.proofs.index.SaidIndex.add_all.Given as goal

abbrev pub invariant-loop-claim : goal.invariant-loop-claim
invariant-loop-claim l = (x : List ℕ) → is_said x l.self ≡ (is_said x l.initial.self || is_among_claims x (take l.claim-index l.claims))
