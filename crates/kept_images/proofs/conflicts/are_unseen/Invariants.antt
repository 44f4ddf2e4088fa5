use Rattle.std.proofs.Common.{◌≡◌, [], map, drop}
use Rattle.kept_images.specs.Tests.{are_others}
use Rattle.kept_images.proofs.conflicts.are_unseen.Given as goal

abbrev pub invariant-loop-pair : goal.invariant-loop-pair
invariant-loop-pair l = are_others l.seen (map (λ e. e.0.signer) (drop l.pair-index l.pairs)) ≡ are_others [] (map (λ e. e.0.signer) l.pairs)
