-- A member that lost every frame asks for the first place, and delivers its batch from the answers.
-- Names here (* for this crate alone):
--   s*, turns_0*, answers_0*, turns_1*, answers_1*, turns_2*, answers_2*, turns_3*, answers_3*, f*, LostBatch*
use Rattle.std.specs.Prelude.{◌≡◌, List, [], ◌∷◌, true, None}
use Rattle.message_defs.specs.Statements.{Init, Echo, Order, Place, Keep}
use Rattle.group_defs.specs.Process.{Setting, start, keyed}
use Rattle.message_defs.specs.Claims.{Claims, Wants}
use Rattle.group_defs.specs.Events.{Turn, Submit, Hand, Tick, Delivers}
use Rattle.group_rows.specs.Scripts.{Seen, seen, setting, turn, by, msg}
use Rattle.group_defs.specs.Accounts.{bounded, agree, sound}
use Rattle.group_defs.specs.Family.{Family, accounts, numbers, honest}
use Rattle.group_defs.specs.Laws.{Premises}

unfoldable pub s : Setting
s = setting (0 ∷ 1 ∷ 2 ∷ 3 ∷ []) (0 ∷ 1 ∷ 2 ∷ 3 ∷ [])

unfoldable pub turns_0 : List Turn
turns_0 =
    turn 100000 (Submit (97 ∷ []))
    ∷ turn 99998 (Submit (98 ∷ []))
    ∷ turn 99996 Tick
    ∷ turn 99996 (Hand 1 (Claims (by 1 (Echo 0 (msg 0 0) (97 ∷ [])) ∷ by 1 (Echo 0 (msg 0 1) (98 ∷ [])) ∷ [])))
    ∷ turn 99996 (Hand 3 (Claims (by 3 (Echo 0 (msg 0 0) (97 ∷ [])) ∷ by 3 (Echo 0 (msg 0 1) (98 ∷ [])) ∷ [])))
    ∷ turn 99994 (Hand 1 (Claims (by 1 (Place 0 0 (msg 0 0 ∷ msg 0 1 ∷ [])) ∷ [])))
    ∷ turn 99994 (Hand 3 (Claims (by 3 (Place 0 0 (msg 0 0 ∷ msg 0 1 ∷ [])) ∷ [])))
    ∷ turn 99993 (Hand 3 (Claims (by 3 (Keep 0 0 (msg 0 0 ∷ msg 0 1 ∷ [])) ∷ [])))
    ∷ turn 99993 (Hand 1 (Claims (by 1 (Keep 0 0 (msg 0 0 ∷ msg 0 1 ∷ [])) ∷ [])))
    ∷ turn 99993 (Hand 2 (Wants 0 0))
    ∷ turn 99993 (Hand 2 (Claims (by 2 (Keep 0 0 (msg 0 0 ∷ msg 0 1 ∷ [])) ∷ [])))
    ∷ []

unfoldable pub answers_0 : List Seen
answers_0 = (
  None,
  ((Init 0 0 (97 ∷ [])) ∷ (Echo 0 (msg 0 0) (97 ∷ [])) ∷ []),
  ((
    (1 ∷ 2 ∷ 3 ∷ []),
    (1 ∷ 1 ∷ 2 ∷ 0 ∷ 8 ∷ 1 ∷ 0 ∷ 0 ∷ 0 ∷ 0 ∷ 0 ∷ 1 ∷ 97 ∷ 1 ∷ 0 ∷ 0 ∷ 0 ∷ 0 ∷ 9 ∷ 2 ∷ 0 ∷ 0 ∷ 0 ∷ 0 ∷ 0 ∷ 0 ∷ 1 ∷ 97
        ∷ 1 ∷ 0 ∷ 0 ∷ 0 ∷ []),
  ) ∷ []),
  ([]),
)
    ∷ (
      None,
      ((Init 0 1 (98 ∷ [])) ∷ (Echo 0 (msg 0 1) (98 ∷ [])) ∷ []),
      ((
        (1 ∷ 2 ∷ 3 ∷ []),
        (1 ∷ 1 ∷ 2 ∷ 0 ∷ 8 ∷ 1 ∷ 0 ∷ 0 ∷ 0 ∷ 1 ∷ 0 ∷ 1 ∷ 98 ∷ 1 ∷ 0 ∷ 0 ∷ 0 ∷ 0 ∷ 9 ∷ 2 ∷ 0 ∷ 0 ∷ 0 ∷ 0 ∷ 1 ∷ 0 ∷ 1 ∷ 98
            ∷ 1 ∷ 0 ∷ 0 ∷ 0 ∷ []),
      ) ∷ []),
      ([]),
    )
    ∷ (
      None,
      ([]),
      ((
        (1 ∷ 2 ∷ 3 ∷ []),
        (1 ∷ 1 ∷ 4 ∷ 0 ∷ 8 ∷ 1 ∷ 0 ∷ 0 ∷ 0 ∷ 0 ∷ 0 ∷ 1 ∷ 97 ∷ 1 ∷ 0 ∷ 0 ∷ 0 ∷ 0 ∷ 9 ∷ 2 ∷ 0 ∷ 0 ∷ 0 ∷ 0 ∷ 0 ∷ 0 ∷ 1 ∷ 97 ∷ 1 ∷ 0 ∷ 0 ∷ 0 ∷ 0
            ∷ 8 ∷ 1 ∷ 0 ∷ 0 ∷ 0 ∷ 1 ∷ 0 ∷ 1 ∷ 98 ∷ 1 ∷ 0 ∷ 0 ∷ 0 ∷ 0 ∷ 9 ∷ 2 ∷ 0 ∷ 0 ∷ 0 ∷ 0 ∷ 1 ∷ 0 ∷ 1 ∷ 98 ∷ 1 ∷ 0 ∷ 0 ∷ 0 ∷ []),
      )
          ∷ ((1 ∷ 2 ∷ 3 ∷ []), (1 ∷ 3 ∷ 0 ∷ 0 ∷ 0 ∷ 0 ∷ [])) ∷ []),
      ([]),
    )
    ∷ (None, ([]), ([]), ([]))
    ∷ (
      None,
      ((Order 0 0 (msg 0 0 ∷ msg 0 1 ∷ [])) ∷ (Place 0 0 (msg 0 0 ∷ msg 0 1 ∷ [])) ∷ []),
      ((
        (1 ∷ 2 ∷ 3 ∷ []),
        (1 ∷ 1 ∷ 4 ∷ 0 ∷ 12 ∷ 12 ∷ 0 ∷ 0 ∷ 0 ∷ 0 ∷ 2 ∷ 0 ∷ 0 ∷ 0 ∷ 0 ∷ 0 ∷ 1 ∷ 1 ∷ 0 ∷ 0 ∷ 0 ∷ 0 ∷ 12 ∷ 13 ∷ 0 ∷ 0 ∷ 0 ∷ 0
            ∷ 2 ∷ 0 ∷ 0 ∷ 0 ∷ 0 ∷ 0 ∷ 1 ∷ 1 ∷ 0 ∷ 0 ∷ 0 ∷ 0 ∷ 9 ∷ 2 ∷ 0 ∷ 0 ∷ 0 ∷ 0 ∷ 0 ∷ 0 ∷ 1 ∷ 97 ∷ 3 ∷ 0 ∷ 0 ∷ 0 ∷ 1 ∷ 0 ∷ 0 ∷ 3 ∷ 0 ∷ 0
            ∷ 0
            ∷ 9 ∷ 2 ∷ 0 ∷ 0 ∷ 0 ∷ 0 ∷ 1 ∷ 0 ∷ 1 ∷ 98 ∷ 3 ∷ 0 ∷ 0 ∷ 0 ∷ 1 ∷ 0 ∷ 0 ∷ 3 ∷ 0 ∷ 0 ∷ []),
      ) ∷ []),
      ([]),
    )
    ∷ (None, ([]), ([]), ([]))
    ∷ (
      None,
      ((Keep 0 0 (msg 0 0 ∷ msg 0 1 ∷ [])) ∷ []),
      (((1 ∷ 2 ∷ 3 ∷ []), (1 ∷ 1 ∷ 1 ∷ 0 ∷ 12 ∷ 14 ∷ 0 ∷ 0 ∷ 0 ∷ 0 ∷ 2 ∷ 0 ∷ 0 ∷ 0 ∷ 0 ∷ 0 ∷ 1 ∷ 1 ∷ 0 ∷ 0 ∷ 0 ∷ [])) ∷ []),
      ([]),
    )
    ∷ (None, ([]), ([]), ([]))
    ∷ (
      None,
      ([]),
      ([]),
      (Delivers 0 (record { place = 0; message = msg 0 0; payload = 97 ∷ [] })
          ∷ Delivers 0 (record { place = 0; message = msg 0 1; payload = 98 ∷ [] }) ∷ []),
    )
    ∷ (
      None,
      ([]),
      ((
        (2 ∷ []),
        (1 ∷ 2 ∷ 4 ∷ 0 ∷ 12 ∷ 13 ∷ 0 ∷ 0 ∷ 0 ∷ 0 ∷ 2 ∷ 0 ∷ 0 ∷ 0 ∷ 0 ∷ 0 ∷ 1 ∷ 3 ∷ 0 ∷ 0 ∷ 0 ∷ 1 ∷ 0 ∷ 0 ∷ 3 ∷ 0 ∷ 0
            ∷ 0 ∷ 9 ∷ 2 ∷ 0 ∷ 0 ∷ 0 ∷ 0 ∷ 0 ∷ 0 ∷ 1 ∷ 97 ∷ 3 ∷ 0 ∷ 0 ∷ 0 ∷ 1 ∷ 0 ∷ 0 ∷ 3 ∷ 0 ∷ 0 ∷ 0 ∷ 9 ∷ 2 ∷ 0 ∷ 0 ∷ 0 ∷ 0 ∷ 1 ∷ 0 ∷ 1
            ∷ 98 ∷ 3
            ∷ 0 ∷ 0 ∷ 0 ∷ 1 ∷ 0 ∷ 0 ∷ 3 ∷ 0 ∷ 0 ∷ 0 ∷ 12 ∷ 14 ∷ 0 ∷ 0 ∷ 0 ∷ 0 ∷ 2 ∷ 0 ∷ 0 ∷ 0 ∷ 0 ∷ 0 ∷ 1 ∷ 3 ∷ 0 ∷ 0 ∷ 0 ∷ 1 ∷ 0 ∷ 0 ∷ 3
            ∷ 0 ∷ 0
            ∷ []),
      ) ∷ []),
      ([]),
    )
    ∷ (None, ([]), ([]), ([]))
    ∷ []

unfoldable pub turns_1 : List Turn
turns_1 =
    turn 100000 (Hand 0 (Claims (by 0 (Init 0 0 (97 ∷ [])) ∷ by 0 (Echo 0 (msg 0 0) (97 ∷ [])) ∷ by 0 (Init 0 1 (98 ∷ []))
    ∷ by 0 (Echo 0 (msg 0 1) (98 ∷ [])) ∷ [])))
    ∷ turn 99998 (Hand 0 (Wants 0 0))
    ∷ turn 99998 (Hand 3 (Claims (by 3 (Echo 0 (msg 0 0) (97 ∷ [])) ∷ by 3 (Echo 0 (msg 0 1) (98 ∷ [])) ∷ [])))
    ∷ turn 99998 (Hand 0 (Claims (by 0 (Order 0 0 (msg 0 0 ∷ msg 0 1 ∷ [])) ∷ by 0 (Place 0 0 (msg 0 0 ∷ msg 0 1 ∷ []))
    ∷ by 0 (Echo 0 (msg 0 0) (97 ∷ [])) ∷ by 1 (Echo 0 (msg 0 0) (97 ∷ [])) ∷ by 3 (Echo 0 (msg 0 0) (97 ∷ []))
    ∷ by 0 (Echo 0 (msg 0 1) (98 ∷ [])) ∷ by 1 (Echo 0 (msg 0 1) (98 ∷ [])) ∷ by 3 (Echo 0 (msg 0 1) (98 ∷ [])) ∷ [])))
    ∷ turn 99997 (Hand 3 (Claims (by 3 (Place 0 0 (msg 0 0 ∷ msg 0 1 ∷ [])) ∷ [])))
    ∷ turn 99996 (Hand 3 (Claims (by 3 (Keep 0 0 (msg 0 0 ∷ msg 0 1 ∷ [])) ∷ [])))
    ∷ turn 99996 (Hand 0 (Claims (by 0 (Keep 0 0 (msg 0 0 ∷ msg 0 1 ∷ [])) ∷ [])))
    ∷ turn 99996 (Hand 2 (Wants 0 0))
    ∷ turn 99996 (Hand 2 (Claims (by 2 (Keep 0 0 (msg 0 0 ∷ msg 0 1 ∷ [])) ∷ [])))
    ∷ []

unfoldable pub answers_1 : List Seen
answers_1 = (
  None,
  ((Echo 0 (msg 0 0) (97 ∷ [])) ∷ (Echo 0 (msg 0 1) (98 ∷ [])) ∷ []),
  ((
    (0 ∷ 2 ∷ 3 ∷ []),
    (1 ∷ 1 ∷ 2 ∷ 0 ∷ 9 ∷ 2 ∷ 0 ∷ 0 ∷ 0 ∷ 0 ∷ 0 ∷ 0 ∷ 1 ∷ 97 ∷ 1 ∷ 1 ∷ 0 ∷ 0 ∷ 0 ∷ 9 ∷ 2 ∷ 0 ∷ 0 ∷ 0 ∷ 0 ∷ 1 ∷ 0 ∷ 1
        ∷ 98 ∷ 1 ∷ 1 ∷ 0 ∷ 0 ∷ []),
  ) ∷ []),
  ([]),
)
    ∷ (None, ([]), ([]), ([]))
    ∷ (None, ([]), ([]), ([]))
    ∷ (
      None,
      ((Place 0 0 (msg 0 0 ∷ msg 0 1 ∷ [])) ∷ []),
      (((0 ∷ 2 ∷ 3 ∷ []), (1 ∷ 1 ∷ 1 ∷ 0 ∷ 12 ∷ 13 ∷ 0 ∷ 0 ∷ 0 ∷ 0 ∷ 2 ∷ 0 ∷ 0 ∷ 0 ∷ 0 ∷ 0 ∷ 1 ∷ 1 ∷ 1 ∷ 0 ∷ 0 ∷ [])) ∷ []),
      ([]),
    )
    ∷ (
      None,
      ((Keep 0 0 (msg 0 0 ∷ msg 0 1 ∷ [])) ∷ []),
      (((0 ∷ 2 ∷ 3 ∷ []), (1 ∷ 1 ∷ 1 ∷ 0 ∷ 12 ∷ 14 ∷ 0 ∷ 0 ∷ 0 ∷ 0 ∷ 2 ∷ 0 ∷ 0 ∷ 0 ∷ 0 ∷ 0 ∷ 1 ∷ 1 ∷ 1 ∷ 0 ∷ 0 ∷ [])) ∷ []),
      ([]),
    )
    ∷ (None, ([]), ([]), ([]))
    ∷ (
      None,
      ([]),
      ([]),
      (Delivers 0 (record { place = 0; message = msg 0 0; payload = 97 ∷ [] })
          ∷ Delivers 0 (record { place = 0; message = msg 0 1; payload = 98 ∷ [] }) ∷ []),
    )
    ∷ (
      None,
      ([]),
      ((
        (2 ∷ []),
        (1 ∷ 2 ∷ 4 ∷ 0 ∷ 12 ∷ 13 ∷ 0 ∷ 0 ∷ 0 ∷ 0 ∷ 2 ∷ 0 ∷ 0 ∷ 0 ∷ 0 ∷ 0 ∷ 1 ∷ 3 ∷ 0 ∷ 0 ∷ 0 ∷ 1 ∷ 0 ∷ 0 ∷ 3 ∷ 0 ∷ 0
            ∷ 0 ∷ 9 ∷ 2 ∷ 0 ∷ 0 ∷ 0 ∷ 0 ∷ 0 ∷ 0 ∷ 1 ∷ 97 ∷ 3 ∷ 0 ∷ 0 ∷ 0 ∷ 1 ∷ 0 ∷ 0 ∷ 3 ∷ 0 ∷ 0 ∷ 0 ∷ 9 ∷ 2 ∷ 0 ∷ 0 ∷ 0 ∷ 0 ∷ 1 ∷ 0 ∷ 1
            ∷ 98 ∷ 3
            ∷ 0 ∷ 0 ∷ 0 ∷ 1 ∷ 0 ∷ 0 ∷ 3 ∷ 0 ∷ 0 ∷ 0 ∷ 12 ∷ 14 ∷ 0 ∷ 0 ∷ 0 ∷ 0 ∷ 2 ∷ 0 ∷ 0 ∷ 0 ∷ 0 ∷ 0 ∷ 1 ∷ 3 ∷ 0 ∷ 0 ∷ 0 ∷ 1 ∷ 0 ∷ 0 ∷ 3
            ∷ 0 ∷ 0
            ∷ []),
      ) ∷ []),
      ([]),
    )
    ∷ (None, ([]), ([]), ([]))
    ∷ []

unfoldable pub turns_2 : List Turn
turns_2 =
    turn 100000 Tick
    ∷ turn 100000 (Hand 0 (Claims (by 0 (Place 0 0 (msg 0 0 ∷ msg 0 1 ∷ [])) ∷ by 1 (Place 0 0 (msg 0 0 ∷ msg 0 1 ∷ []))
    ∷ by 3 (Place 0 0 (msg 0 0 ∷ msg 0 1 ∷ [])) ∷ by 0 (Echo 0 (msg 0 0) (97 ∷ [])) ∷ by 1 (Echo 0 (msg 0 0) (97 ∷ []))
    ∷ by 3 (Echo 0 (msg 0 0) (97 ∷ [])) ∷ by 0 (Echo 0 (msg 0 1) (98 ∷ [])) ∷ by 1 (Echo 0 (msg 0 1) (98 ∷ []))
    ∷ by 3 (Echo 0 (msg 0 1) (98 ∷ [])) ∷ by 0 (Keep 0 0 (msg 0 0 ∷ msg 0 1 ∷ [])) ∷ by 1 (Keep 0 0 (msg 0 0 ∷ msg 0 1 ∷ []))
    ∷ by 3 (Keep 0 0 (msg 0 0 ∷ msg 0 1 ∷ [])) ∷ [])))
    ∷ turn 99999 (Hand 1 (Claims (by 0 (Place 0 0 (msg 0 0 ∷ msg 0 1 ∷ [])) ∷ by 1 (Place 0 0 (msg 0 0 ∷ msg 0 1 ∷ []))
    ∷ by 3 (Place 0 0 (msg 0 0 ∷ msg 0 1 ∷ [])) ∷ by 0 (Echo 0 (msg 0 0) (97 ∷ [])) ∷ by 1 (Echo 0 (msg 0 0) (97 ∷ []))
    ∷ by 3 (Echo 0 (msg 0 0) (97 ∷ [])) ∷ by 0 (Echo 0 (msg 0 1) (98 ∷ [])) ∷ by 1 (Echo 0 (msg 0 1) (98 ∷ []))
    ∷ by 3 (Echo 0 (msg 0 1) (98 ∷ [])) ∷ by 0 (Keep 0 0 (msg 0 0 ∷ msg 0 1 ∷ [])) ∷ by 1 (Keep 0 0 (msg 0 0 ∷ msg 0 1 ∷ []))
    ∷ by 3 (Keep 0 0 (msg 0 0 ∷ msg 0 1 ∷ [])) ∷ [])))
    ∷ turn 99999 (Hand 3 (Claims (by 0 (Place 0 0 (msg 0 0 ∷ msg 0 1 ∷ [])) ∷ by 1 (Place 0 0 (msg 0 0 ∷ msg 0 1 ∷ []))
    ∷ by 3 (Place 0 0 (msg 0 0 ∷ msg 0 1 ∷ [])) ∷ by 0 (Echo 0 (msg 0 0) (97 ∷ [])) ∷ by 1 (Echo 0 (msg 0 0) (97 ∷ []))
    ∷ by 3 (Echo 0 (msg 0 0) (97 ∷ [])) ∷ by 0 (Echo 0 (msg 0 1) (98 ∷ [])) ∷ by 1 (Echo 0 (msg 0 1) (98 ∷ []))
    ∷ by 3 (Echo 0 (msg 0 1) (98 ∷ [])) ∷ by 0 (Keep 0 0 (msg 0 0 ∷ msg 0 1 ∷ [])) ∷ by 1 (Keep 0 0 (msg 0 0 ∷ msg 0 1 ∷ []))
    ∷ by 3 (Keep 0 0 (msg 0 0 ∷ msg 0 1 ∷ [])) ∷ [])))
    ∷ []

unfoldable pub answers_2 : List Seen
answers_2 =
    (None, ([]), (((0 ∷ 1 ∷ 3 ∷ []), (1 ∷ 3 ∷ 0 ∷ 0 ∷ 0 ∷ 0 ∷ [])) ∷ []), ([]))
    ∷ (
      None,
      ((Keep 0 0 (msg 0 0 ∷ msg 0 1 ∷ [])) ∷ []),
      (((0 ∷ 1 ∷ 3 ∷ []), (1 ∷ 1 ∷ 1 ∷ 0 ∷ 12 ∷ 14 ∷ 0 ∷ 0 ∷ 0 ∷ 0 ∷ 2 ∷ 0 ∷ 0 ∷ 0 ∷ 0 ∷ 0 ∷ 1 ∷ 1 ∷ 2 ∷ 0 ∷ 0 ∷ [])) ∷ []),
      (Delivers 0 (record { place = 0; message = msg 0 0; payload = 97 ∷ [] })
          ∷ Delivers 0 (record { place = 0; message = msg 0 1; payload = 98 ∷ [] }) ∷ []),
    )
    ∷ (None, ([]), ([]), ([]))
    ∷ (None, ([]), ([]), ([]))
    ∷ []

unfoldable pub turns_3 : List Turn
turns_3 =
    turn 100000 (Hand 0 (Claims (by 0 (Init 0 0 (97 ∷ [])) ∷ by 0 (Echo 0 (msg 0 0) (97 ∷ [])) ∷ by 0 (Init 0 1 (98 ∷ []))
    ∷ by 0 (Echo 0 (msg 0 1) (98 ∷ [])) ∷ [])))
    ∷ turn 99998 (Hand 0 (Wants 0 0))
    ∷ turn 99998 (Hand 1 (Claims (by 1 (Echo 0 (msg 0 0) (97 ∷ [])) ∷ by 1 (Echo 0 (msg 0 1) (98 ∷ [])) ∷ [])))
    ∷ turn 99998 (Hand 0 (Claims (by 0 (Order 0 0 (msg 0 0 ∷ msg 0 1 ∷ [])) ∷ by 0 (Place 0 0 (msg 0 0 ∷ msg 0 1 ∷ []))
    ∷ by 0 (Echo 0 (msg 0 0) (97 ∷ [])) ∷ by 1 (Echo 0 (msg 0 0) (97 ∷ [])) ∷ by 3 (Echo 0 (msg 0 0) (97 ∷ []))
    ∷ by 0 (Echo 0 (msg 0 1) (98 ∷ [])) ∷ by 1 (Echo 0 (msg 0 1) (98 ∷ [])) ∷ by 3 (Echo 0 (msg 0 1) (98 ∷ [])) ∷ [])))
    ∷ turn 99997 (Hand 1 (Claims (by 1 (Place 0 0 (msg 0 0 ∷ msg 0 1 ∷ [])) ∷ [])))
    ∷ turn 99996 (Hand 0 (Claims (by 0 (Keep 0 0 (msg 0 0 ∷ msg 0 1 ∷ [])) ∷ [])))
    ∷ turn 99996 (Hand 1 (Claims (by 1 (Keep 0 0 (msg 0 0 ∷ msg 0 1 ∷ [])) ∷ [])))
    ∷ turn 99996 (Hand 2 (Wants 0 0))
    ∷ turn 99996 (Hand 2 (Claims (by 2 (Keep 0 0 (msg 0 0 ∷ msg 0 1 ∷ [])) ∷ [])))
    ∷ []

unfoldable pub answers_3 : List Seen
answers_3 = (
  None,
  ((Echo 0 (msg 0 0) (97 ∷ [])) ∷ (Echo 0 (msg 0 1) (98 ∷ [])) ∷ []),
  ((
    (0 ∷ 1 ∷ 2 ∷ []),
    (1 ∷ 1 ∷ 2 ∷ 0 ∷ 9 ∷ 2 ∷ 0 ∷ 0 ∷ 0 ∷ 0 ∷ 0 ∷ 0 ∷ 1 ∷ 97 ∷ 1 ∷ 3 ∷ 0 ∷ 0 ∷ 0 ∷ 9 ∷ 2 ∷ 0 ∷ 0 ∷ 0 ∷ 0 ∷ 1 ∷ 0 ∷ 1
        ∷ 98 ∷ 1 ∷ 3 ∷ 0 ∷ 0 ∷ []),
  ) ∷ []),
  ([]),
)
    ∷ (None, ([]), ([]), ([]))
    ∷ (None, ([]), ([]), ([]))
    ∷ (
      None,
      ((Place 0 0 (msg 0 0 ∷ msg 0 1 ∷ [])) ∷ []),
      (((0 ∷ 1 ∷ 2 ∷ []), (1 ∷ 1 ∷ 1 ∷ 0 ∷ 12 ∷ 13 ∷ 0 ∷ 0 ∷ 0 ∷ 0 ∷ 2 ∷ 0 ∷ 0 ∷ 0 ∷ 0 ∷ 0 ∷ 1 ∷ 1 ∷ 3 ∷ 0 ∷ 0 ∷ [])) ∷ []),
      ([]),
    )
    ∷ (
      None,
      ((Keep 0 0 (msg 0 0 ∷ msg 0 1 ∷ [])) ∷ []),
      (((0 ∷ 1 ∷ 2 ∷ []), (1 ∷ 1 ∷ 1 ∷ 0 ∷ 12 ∷ 14 ∷ 0 ∷ 0 ∷ 0 ∷ 0 ∷ 2 ∷ 0 ∷ 0 ∷ 0 ∷ 0 ∷ 0 ∷ 1 ∷ 1 ∷ 3 ∷ 0 ∷ 0 ∷ [])) ∷ []),
      ([]),
    )
    ∷ (None, ([]), ([]), ([]))
    ∷ (
      None,
      ([]),
      ([]),
      (Delivers 0 (record { place = 0; message = msg 0 0; payload = 97 ∷ [] })
          ∷ Delivers 0 (record { place = 0; message = msg 0 1; payload = 98 ∷ [] }) ∷ []),
    )
    ∷ (
      None,
      ([]),
      ((
        (2 ∷ []),
        (1 ∷ 2 ∷ 4 ∷ 0 ∷ 12 ∷ 13 ∷ 0 ∷ 0 ∷ 0 ∷ 0 ∷ 2 ∷ 0 ∷ 0 ∷ 0 ∷ 0 ∷ 0 ∷ 1 ∷ 3 ∷ 0 ∷ 0 ∷ 0 ∷ 1 ∷ 0 ∷ 0 ∷ 3 ∷ 0 ∷ 0
            ∷ 0 ∷ 9 ∷ 2 ∷ 0 ∷ 0 ∷ 0 ∷ 0 ∷ 0 ∷ 0 ∷ 1 ∷ 97 ∷ 3 ∷ 0 ∷ 0 ∷ 0 ∷ 1 ∷ 0 ∷ 0 ∷ 3 ∷ 0 ∷ 0 ∷ 0 ∷ 9 ∷ 2 ∷ 0 ∷ 0 ∷ 0 ∷ 0 ∷ 1 ∷ 0 ∷ 1
            ∷ 98 ∷ 3
            ∷ 0 ∷ 0 ∷ 0 ∷ 1 ∷ 0 ∷ 0 ∷ 3 ∷ 0 ∷ 0 ∷ 0 ∷ 12 ∷ 14 ∷ 0 ∷ 0 ∷ 0 ∷ 0 ∷ 2 ∷ 0 ∷ 0 ∷ 0 ∷ 0 ∷ 0 ∷ 1 ∷ 3 ∷ 0 ∷ 0 ∷ 0 ∷ 1 ∷ 0 ∷ 0 ∷ 3
            ∷ 0 ∷ 0
            ∷ []),
      ) ∷ []),
      ([]),
    )
    ∷ (None, ([]), ([]), ([]))
    ∷ []

unfoldable pub f : Family
f = record {
  setting = s;
  correct =
      (record { me = 0; batch_limit = 16; turns = turns_0 } ∷ record { me = 1; batch_limit = 16; turns = turns_1 }
      ∷ record { me = 2; batch_limit = 16; turns = turns_2 } ∷ record { me = 3; batch_limit = 16; turns = turns_3 } ∷ []);
}

-- the row: what the definitions give
pub record LostBatch : Type 0 where
  pub row_0 : seen s (start s 0 16) turns_0 ≡ answers_0
  pub row_1 : seen s (start s 1 16) turns_1 ≡ answers_1
  pub row_2 : seen s (start s 2 16) turns_2 ≡ answers_2
  pub row_3 : seen s (start s 3 16) turns_3 ≡ answers_3
  pub judged : honest f ∷ bounded (accounts f) (numbers f) ∷ agree (accounts f) ∷ sound (accounts f) (keyed f.setting) ∷ []
      ≡ true ∷ true ∷ true ∷ true ∷ []
  pub premises : Premises f
