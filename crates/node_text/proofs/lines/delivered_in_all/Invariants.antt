use Rattle.std.proofs.Common.{◌≡◌, map, take, length, sum}
use Rattle.node_text.proofs.lines.delivered_in_all.Given as goal

abbrev pub invariant-loop-of_view : goal.invariant-loop-of_view
invariant-loop-of_view l = l.all ≡ sum (map (λ ds. length ds.items) (take l.of_view-index l.delivered))
