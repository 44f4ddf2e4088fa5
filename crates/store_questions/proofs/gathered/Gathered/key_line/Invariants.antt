use Rattle.std.proofs.Common.{◌≡◌, drop, map}
use Rattle.std.specs.Prelude.{find, ◌==◌}
use Rattle.store_questions.specs.Views.{key_line}
use Rattle.store_questions.proofs.gathered.Gathered.key_line.Given as goal

abbrev pub invariant-loop-key : goal.invariant-loop-key
invariant-loop-key l = find (λ k. k.0 == l.process) (map key_line (drop l.key-index l.key-items))
    ≡ find (λ k. k.0 == l.process) (map key_line l.key-items)
