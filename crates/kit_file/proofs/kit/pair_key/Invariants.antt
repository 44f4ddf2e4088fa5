use Rattle.std.proofs.Common.{◌≡◌, drop}
use Rattle.std.specs.Prelude.{find, ◌==◌}
use Rattle.kit_file.proofs.kit.pair_key.Given as goal

abbrev pub invariant-loop-pair : goal.invariant-loop-pair
invariant-loop-pair l = find (λ k. k.0 == l.q) (drop l.pair-index l.pairs) ≡ find (λ k. k.0 == l.q) l.pairs
