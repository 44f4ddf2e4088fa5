-- A manager orders a place that it has delivered: three of four lie, and had given the place to a message that the manager could not order
-- yet. No certificate goes with that Order.
use Rattle.std.specs.Prelude.{◌≡◌, List, [], ◌∷◌, true, false, None}
use Rattle.message_defs.specs.Statements.{Echo, Order, Place, Keep}
use Rattle.group_defs.specs.Process.{Setting, start, keyed}
use Rattle.message_defs.specs.Claims.{Claims}
use Rattle.group_defs.specs.Events.{Turn, Hand, Delivers}
use Rattle.group_rows.specs.Scripts.{Seen, seen, setting, turn, by, msg}
use Rattle.group_defs.specs.Accounts.{bounded, agree, sound}
use Rattle.group_defs.specs.Family.{Family, accounts, numbers, honest}

unfoldable pub s : Setting
s = setting (0 ∷ 1 ∷ 2 ∷ 3 ∷ []) (0 ∷ 1 ∷ 2 ∷ 3 ∷ [])

unfoldable pub turns_0 : List Turn
turns_0 =
    turn 100000 (Hand 1 (Claims (by 1 (Echo 0 (msg 1 1) (98 ∷ [])) ∷ by 1 (Place 0 0 (msg 1 1 ∷ [])) ∷ by 1 (Keep 0 0 (msg 1 1 ∷ []))
    ∷ [])))
    ∷ turn 100000 (Hand 2 (Claims (by 2 (Echo 0 (msg 1 1) (98 ∷ [])) ∷ by 2 (Place 0 0 (msg 1 1 ∷ [])) ∷ by 2 (Keep 0 0 (msg 1 1 ∷ []))
    ∷ [])))
    ∷ turn 100000 (Hand 3 (Claims (by 3 (Echo 0 (msg 1 1) (98 ∷ [])) ∷ by 3 (Place 0 0 (msg 1 1 ∷ [])) ∷ by 3 (Keep 0 0 (msg 1 1 ∷ []))
    ∷ [])))
    ∷ turn 99999 (Hand 1 (Claims (by 1 (Echo 0 (msg 1 0) (97 ∷ [])) ∷ [])))
    ∷ turn 99999 (Hand 2 (Claims (by 2 (Echo 0 (msg 1 0) (97 ∷ [])) ∷ [])))
    ∷ turn 99999 (Hand 3 (Claims (by 3 (Echo 0 (msg 1 0) (97 ∷ [])) ∷ [])))
    ∷ []

unfoldable pub answers_0 : List Seen
answers_0 =
    (None, ([]), ([]), ([]))
    ∷ (None, ([]), ([]), ([]))
    ∷ (
      None,
      ((Keep 0 0 (msg 1 1 ∷ [])) ∷ []),
      (((1 ∷ 2 ∷ 3 ∷ []), (1 ∷ 1 ∷ 1 ∷ 0 ∷ 8 ∷ 5 ∷ 0 ∷ 0 ∷ 0 ∷ 0 ∷ 1 ∷ 0 ∷ 1 ∷ 1 ∷ 0 ∷ 0 ∷ 0 ∷ [])) ∷ []),
      (Delivers 0 (record { place = 0; message = msg 1 1; payload = 98 ∷ [] }) ∷ []),
    )
    ∷ (None, ([]), ([]), ([]))
    ∷ (None, ([]), ([]), ([]))
    ∷ (
      None,
      ((Order 0 0 (msg 1 0 ∷ msg 1 1 ∷ [])) ∷ (Place 0 0 (msg 1 0 ∷ msg 1 1 ∷ [])) ∷ []),
      ((
        (1 ∷ 2 ∷ 3 ∷ []),
        (1 ∷ 1 ∷ 2 ∷ 0 ∷ 12 ∷ 12 ∷ 0 ∷ 0 ∷ 0 ∷ 0 ∷ 2 ∷ 1 ∷ 0 ∷ 0 ∷ 1 ∷ 0 ∷ 1 ∷ 1 ∷ 0 ∷ 0 ∷ 0 ∷ 0 ∷ 12 ∷ 13 ∷ 0 ∷ 0 ∷ 0 ∷ 0
            ∷ 2 ∷ 1 ∷ 0 ∷ 0 ∷ 1 ∷ 0 ∷ 1 ∷ 1 ∷ 0 ∷ 0 ∷ 0 ∷ []),
      ) ∷ []),
      ([]),
    )
    ∷ []

unfoldable pub f : Family
f = record { setting = s; correct = (record { me = 0; batch_limit = 16; turns = turns_0 } ∷ []) }

-- the row: what the definitions give
pub record OrderBehind : Type 0 where
  pub row_0 : seen s (start s 0 16) turns_0 ≡ answers_0
  pub judged : honest f ∷ bounded (accounts f) (numbers f) ∷ agree (accounts f) ∷ sound (accounts f) (keyed f.setting) ∷ []
      ≡ true ∷ false ∷ true ∷ false ∷ []
