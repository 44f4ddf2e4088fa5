use Rattle.std.proofs.Common.{◌≡◌, length}
use Rattle.frame_codec.specs.Views as frames
use Rattle.message_defs.specs.Claims.{claims_of_groups}
use Rattle.stmt_codec.specs.Looks.{looked}
use Rattle.statements.specs.Views.{carried}
use Rattle.stmt_codec.proofs.claims.check_groups.Given as goal

abbrev pub invariant-groups : goal.invariant-groups
invariant-groups l = looked (claims_of_groups (carried l.carrier) (frames.groups_left l.fn.groups))
    ≡ looked (claims_of_groups (carried l.carrier) (frames.groups_left l.left))

abbrev pub decreases-groups : goal.decreases-groups
decreases-groups l = length (frames.groups_left l.left)
