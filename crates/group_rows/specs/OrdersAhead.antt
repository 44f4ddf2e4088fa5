-- A manager whose first place has two messages orders up to the 32nd place after it, and no further: places count, and not messages.
use Rattle.std.specs.Prelude.{◌≡◌, ℕ, List, [], ◌∷◌, ◌++◌, map, flat_map}
use Rattle.std.specs.List.{range_with_len}
use Rattle.message_defs.specs.Statements.{Init, Echo, Place, Keep, Batch}
use Rattle.group_defs.specs.Process.{Setting, Process, start}
use Rattle.group_defs.specs.Certified.{own_orders}
use Rattle.message_defs.specs.Claims.{Claims}
use Rattle.group_defs.specs.Events.{Turn, run, Submit, Hand}
use Rattle.group_rows.specs.Scripts.{setting, turn, by, msg}

unfoldable pub s : Setting
s = setting (0 ∷ 1 ∷ []) (0 ∷ 1 ∷ [])

abbrev pub first : Batch
first = msg 0 0 ∷ msg 0 1 ∷ []

-- the one other member echoes a message of process 0, which says its number
abbrev pub echo : ℕ → Turn
echo l = turn 1000 (Hand 1 (Claims (by 1 (Echo 0 (msg 0 l) (l ∷ [])) ∷ [])))

abbrev pub submit : ℕ → Turn
submit l = turn 1000 (Submit (l ∷ []))

-- two messages at one place, which is delivered; 32 more, one after the other; and one of the other member
unfoldable pub turns : List Turn
turns =
    submit 0
    ∷ submit 1
    ∷ turn 1000 (Hand 1 (Claims (by 1 (Echo 0 (msg 0 0) (0 ∷ [])) ∷ by 1 (Echo 0 (msg 0 1) (1 ∷ [])) ∷ [])))
    ∷ turn 1000 (Hand 1 (Claims (by 1 (Place 0 0 first) ∷ by 1 (Keep 0 0 first) ∷ [])))
    ∷ (flat_map (λ l. submit l ∷ echo l ∷ []) (range_with_len 2 32)
    ++ turn 1000 (Hand 1 (Claims (by 1 (Init 0 0 (9 ∷ [])) ∷ by 1 (Echo 0 (msg 1 0) (9 ∷ [])) ∷ []))) ∷ [])

unfoldable pub end : Process
end = run s (start s 0 16) turns

-- the row: what the definitions give
pub record OrdersAhead : Type 0 where
  pub orders : own_orders end ≡ first ∷ map (λ l. msg 0 l ∷ []) (range_with_len 2 32)
