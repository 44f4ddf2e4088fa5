use Rattle.std.proofs.Common.{◌≡◌}
use Rattle.group_defs.specs.Process.{Setting, Process}
use Rattle.member_state.specs.declared.marks.Before.{Before}
use Rattle.member_state.specs.declared.state.ProcessState.{ProcessState}
use Rattle.member_state.specs.Marks.{Stays}
use Rattle.member_state.specs.States.{IsStateOf}
use Rattle.member_settling.proofs.Loop.{GoesOn}
use Rattle.member_settling.proofs.delivering.deliver_below.Given as goal

abbrev pub invariant-places : goal.invariant-places
invariant-places l =
    ((s : Setting) (p : Process) → IsStateOf s p l.fn.state → GoesOn s p l.limit l._place l.state l.fn.notes.items l.notes.items)
    × ((b : Before) (was : ProcessState) → Stays b was l.fn.state → Stays b was l.state) × (l.state.left ≡ l.fn.state.left)
