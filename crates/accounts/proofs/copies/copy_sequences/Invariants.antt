use Rattle.std.proofs.Common.{◌≡◌, map, take}
use Rattle.accounts.specs.Views.{delivery}
use Rattle.accounts.proofs.copies.copy_sequences.Given as goal

abbrev pub invariant-loop-delivered : goal.invariant-loop-delivered
invariant-loop-delivered l = map (λ ds. map delivery ds.items) l.copies.items
    ≡ map (λ ds. map delivery ds.items) (take l.delivered-index l.all)
