use Rattle.std.proofs.Common.{◌≡◌, ◌+◌, inl, ℕ, refl, subst, arith}
use Rattle.node_defs.specs.Scripts.{most_lines}
use Rattle.node_input.specs.Reads.{EndsAfter}
use Rattle.node_input.specs.Sources.{SeenAs}
use Rattle.node_snapping.specs.Stops.{stop as stop_of}
use Rattle.node_script.proofs.reading.end_at_last.Goals as goal

pub returns-in-Ok : goal.returns-in-Ok
unfolding most_lines
returns-in-Ok g c = λ k seen.
    let same : c.in-Ok.number ≡ c.args.go + most_lines + 1 = omega (arith, c.in-Ok.ensures) in
    subst (λ (m : ℕ). SeenAs (λ l. EndsAfter c.args.most m k l (stop_of c.end_after.result)) c.end_after.new.lines.ahead
    (g.S.Source.left c.end_after.new.input) (g.S.Source.faults c.end_after.new.input)) same (c.end_after.ensures k seen)

pub returns-in-Err : goal.returns-in-Err
returns-in-Err g c = λ k seen. record { source = k; seen = seen; holds = inl refl }
