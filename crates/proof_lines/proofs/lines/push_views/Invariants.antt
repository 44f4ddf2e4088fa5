use Rattle.group_defs.specs.Process.{Process, Setting}
use Rattle.member_state.specs.States.{IsStateOf}
use Rattle.proof_defs.specs.Lines.{proof_line}
use Rattle.proof_lines.specs.Seen.{CanTravel}
use Rattle.proof_lines.proofs.Lefts.{Reported}
use Rattle.proof_lines.proofs.lines.push_views.Given as goal

-- the views before this one have their lines
abbrev pub invariant-views : goal.invariant-views
invariant-views l = (s : Setting) (p : Process) → IsStateOf s p l.state → Reported (proof_line p.me) CanTravel p.left l.view l.fn.out.items l.out.items
