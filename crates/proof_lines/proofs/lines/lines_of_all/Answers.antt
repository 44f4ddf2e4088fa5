use Rattle.std.proofs.Common.{[], ℕ, List, sym, subst, arith}
use Rattle.std.specs.Prelude.{All}
use Rattle.audit_defs.specs.Players as plain
use Rattle.proof_defs.specs.Lines.{lines_of}
use Rattle.proof_lines.specs.Seen.{CanTravel}
use Rattle.proof_lines.proofs.Lefts.{Reported, all-reported, as-many, none-reported, one-reported, process-at}
use Rattle.proof_lines.proofs.lines.lines_of_all.Goals as goal

pub loop-player-init : goal.loop-player-init
loop-player-init c = λ s cs are.
    let f : plain.Player → List ℕ = λ d. lines_of d.now in
    let P : plain.Player → Type 0 = λ d. All CanTravel d.now.left in
    subst (λ (t : List ℕ). Reported f P cs 0 [] t) (sym c.new-text.ensures.items) (none-reported f P cs [])

pub loop-player-preserved : goal.loop-player-preserved
loop-player-preserved c = λ s cs are.
    let at = process-at s cs c.args.players.now c.loop-player.player-index c.player-item.result are c.loop-player-test.true c.player-item.is in
    one-reported (λ (d : plain.Player). lines_of d.now) (λ (d : plain.Player). All CanTravel d.now.left) cs c.loop-player.player-index []
    c.loop-player.text.items _ at.0 (c.loop-player.invariant s cs are) at.1 (c.in_ok-push_player.ensures s at.0 at.2)

pub returns : goal.returns
returns c = λ s cs are. all-reported (λ (d : plain.Player). lines_of d.now) (λ (d : plain.Player). All CanTravel d.now.left) cs
    c.loop-player.player-index [] c.loop-player.text.items (c.loop-player.invariant s cs are)
    (let many = as-many s cs c.args.players.now are in let past = c.loop-player-test.false in omega (arith, many, past))
