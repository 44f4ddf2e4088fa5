use Rattle.std.proofs.Common.{[], List}
use Rattle.std.specs.Prelude.{All}
use Rattle.std.specs.List.{AllZip}
use Rattle.group_defs.specs.Process.{Setting}
use Rattle.audit_defs.specs.Players as plain
use Rattle.audit_core.specs.Walks.{IsPlayer}
use Rattle.proof_defs.specs.Lines.{lines_of}
use Rattle.proof_lines.specs.Seen.{CanTravel}
use Rattle.proof_lines.proofs.Lefts.{Reported}
use Rattle.proof_lines.proofs.lines.lines_of_all.Given as goal

-- the processes before this one have their lines
abbrev pub invariant-loop-player : goal.invariant-loop-player
invariant-loop-player l = (s : Setting) (cs : List plain.Player) → AllZip (IsPlayer s) cs l.players
    → Reported (λ (c : plain.Player). lines_of c.now) (λ (c : plain.Player). All CanTravel c.now.left) cs l.player-index [] l.text.items
