-- What an iterator over the claims of a frame has left.
use Rattle.std.specs.Prelude.{List, [], ◌∷◌, ◌++◌, Option, Some, None, Result, Ok, Err}
use Rattle.frame_codec.specs.Below.{◌>>=◌}
use Rattle.message_defs.specs.declared.FrameFault.{FrameFault}
use Rattle.message_defs.specs.Frames as plain
use Rattle.message_defs.specs.Statements.{Claim}
use Rattle.message_defs.specs.Claims.{claims_of_group, claims_of_groups}
use Rattle.frame_codec.specs.declared.groups.Group.{Group}
use Rattle.frame_codec.specs.declared.groups.Groups.{Groups}
use Rattle.frame_codec.specs.Views.{group_view, groups_left}
use Rattle.statements.specs.declared.reading.Carrier.{Carrier}
use Rattle.statements.specs.Views.{carried}

-- of what is left of a group
abbrev pub of_group : Carrier → Group → Result (List Claim) FrameFault
of_group carrier g = claims_of_group (carried carrier) (group_view g)

-- of the group that was begun, if one was
abbrev pub of_begun : Carrier → Option Group → Result (List Claim) FrameFault
of_begun carrier None = Ok []
of_begun carrier (Some g) = of_group carrier g

-- the groups that were not begun: a Want has none
abbrev pub groups_of : Option Groups → List plain.Group
groups_of None = []
groups_of (Some gs) = groups_left gs

abbrev pub of_groups : Carrier → Option Groups → Result (List Claim) FrameFault
of_groups carrier groups = claims_of_groups (carried carrier) (groups_of groups)

abbrev pub both : Result (List Claim) FrameFault → Result (List Claim) FrameFault → Result (List Claim) FrameFault
both first others = first >>= λ xs. others >>= λ ys. Ok (xs ++ ys)

abbrev pub with_first : Claim → Result (List Claim) FrameFault → Result (List Claim) FrameFault
with_first c others = others >>= λ cs. Ok (c ∷ cs)

abbrev pub all_left : Carrier → Option Group → Option Groups → Result (List Claim) FrameFault
all_left carrier begun groups = both (of_begun carrier begun) (of_groups carrier groups)

-- the list that was read, or the empty one
abbrev pub given : Result (List Claim) FrameFault → List Claim
given (Ok cs) = cs
given (Err e) = []
