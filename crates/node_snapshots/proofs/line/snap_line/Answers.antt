use Rattle.std.proofs.Common.{◌≡◌, ℕ, List, subst, ◌∙◌}
use Rattle.std.specs.Prelude.{IfOk}
use Rattle.node_defs.specs.Snapshots.{snap_line, snap_line_of}
use Rattle.node_snapshots.proofs.line.snap_line.Goals as goal

pub returns : goal.returns
unfolding snap_line
returns c = λ version b n at are. subst (λ (x : List ℕ). IfOk c.line_of.result (λ line. line.items ≡ snap_line_of x))
    (c.as_slice.ensures.value ∙ c.in_ok-bytes.ensures version b n at are) c.line_of.ensures
