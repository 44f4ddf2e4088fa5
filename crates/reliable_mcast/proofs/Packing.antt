-- A claim added leaves no frame without groups.
use Rattle.std.proofs.Common.{◌≤◌, List, [], ◌∷◌, length, Bool, true, false, arith}
use Rattle.std.specs.Prelude.{if◌then◌else◌}
use Rattle.message_defs.specs.Frames.{Group}
use Rattle.message_defs.specs.Packing.{Signed, joins, with_signature, group_of, add}

pub some_added : (gs : List Group) (c : Signed) → 1 ≤ length (add gs c)
some_added [] c = omega arith
some_added (g ∷ []) c = go (joins g c)
  where
    go : (b : Bool) → 1 ≤ length (if b then with_signature g c ∷ [] else g ∷ group_of c ∷ [])
    go true = omega arith
    go false = omega arith
some_added (g ∷ h ∷ gs) c = omega arith
