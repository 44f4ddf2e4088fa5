-- A Tick when one place with two messages is delivered and the next one is not: what was said of that one is said again.
use Rattle.std.specs.Prelude.{◌≡◌, List, [], ◌∷◌, true, None}
use Rattle.message_defs.specs.Statements.{Init, Echo, Order, Place, Keep}
use Rattle.group_defs.specs.Process.{Setting, start, keyed}
use Rattle.message_defs.specs.Claims.{Claims, Wants}
use Rattle.group_defs.specs.Events.{Turn, Submit, Hand, Tick, Delivers}
use Rattle.group_rows.specs.Scripts.{Seen, seen, setting, turn, by, msg}
use Rattle.group_defs.specs.Accounts.{bounded, agree, sound}
use Rattle.group_defs.specs.Family.{Family, accounts, numbers, honest}
use Rattle.group_defs.specs.Laws.{Premises}

unfoldable pub s : Setting
s = setting (0 ∷ 1 ∷ []) (0 ∷ 1 ∷ [])

unfoldable pub turns_0 : List Turn
turns_0 =
    turn 100000 (Submit (97 ∷ []))
    ∷ turn 99998 (Submit (98 ∷ []))
    ∷ turn 99996 (Submit (99 ∷ []))
    ∷ turn 99994 Tick
    ∷ turn 99994 (Hand 1 (Claims (by 1 (Echo 0 (msg 0 0) (97 ∷ [])) ∷ by 1 (Echo 0 (msg 0 1) (98 ∷ [])) ∷ by 1 (Echo 0 (msg 0 2) (99 ∷ []))
    ∷ [])))
    ∷ turn 99991 (Hand 1 (Claims (by 1 (Place 0 0 (msg 0 0 ∷ msg 0 1 ∷ [])) ∷ by 1 (Place 0 1 (msg 0 2 ∷ []))
    ∷ by 1 (Keep 0 0 (msg 0 0 ∷ msg 0 1 ∷ [])) ∷ [])))
    ∷ turn 99988 Tick
    ∷ turn 99988 (Hand 1 (Claims (by 1 (Keep 0 1 (msg 0 2 ∷ [])) ∷ [])))
    ∷ turn 99988 (Hand 1 (Claims (by 0 (Place 0 1 (msg 0 2 ∷ [])) ∷ by 1 (Place 0 1 (msg 0 2 ∷ [])) ∷ by 0 (Echo 0 (msg 0 2) (99 ∷ []))
    ∷ by 1 (Echo 0 (msg 0 2) (99 ∷ [])) ∷ by 0 (Keep 0 1 (msg 0 2 ∷ [])) ∷ by 1 (Keep 0 1 (msg 0 2 ∷ [])) ∷ [])))
    ∷ []

unfoldable pub answers_0 : List Seen
answers_0 = (
  None,
  ((Init 0 0 (97 ∷ [])) ∷ (Echo 0 (msg 0 0) (97 ∷ [])) ∷ []),
  ((
    (1 ∷ []),
    (1 ∷ 1 ∷ 2 ∷ 0 ∷ 8 ∷ 1 ∷ 0 ∷ 0 ∷ 0 ∷ 0 ∷ 0 ∷ 1 ∷ 97 ∷ 1 ∷ 0 ∷ 0 ∷ 0 ∷ 0 ∷ 9 ∷ 2 ∷ 0 ∷ 0 ∷ 0 ∷ 0 ∷ 0 ∷ 0 ∷ 1 ∷ 97 ∷ 1 ∷ 0
        ∷ 0 ∷ 0 ∷ []),
  ) ∷ []),
  ([]),
)
    ∷ (
      None,
      ((Init 0 1 (98 ∷ [])) ∷ (Echo 0 (msg 0 1) (98 ∷ [])) ∷ []),
      ((
        (1 ∷ []),
        (1 ∷ 1 ∷ 2 ∷ 0 ∷ 8 ∷ 1 ∷ 0 ∷ 0 ∷ 0 ∷ 1 ∷ 0 ∷ 1 ∷ 98 ∷ 1 ∷ 0 ∷ 0 ∷ 0 ∷ 0 ∷ 9 ∷ 2 ∷ 0 ∷ 0 ∷ 0 ∷ 0 ∷ 1 ∷ 0 ∷ 1 ∷ 98 ∷ 1 ∷ 0
            ∷ 0 ∷ 0 ∷ []),
      ) ∷ []),
      ([]),
    )
    ∷ (
      None,
      ((Init 0 2 (99 ∷ [])) ∷ (Echo 0 (msg 0 2) (99 ∷ [])) ∷ []),
      ((
        (1 ∷ []),
        (1 ∷ 1 ∷ 2 ∷ 0 ∷ 8 ∷ 1 ∷ 0 ∷ 0 ∷ 0 ∷ 2 ∷ 0 ∷ 1 ∷ 99 ∷ 1 ∷ 0 ∷ 0 ∷ 0 ∷ 0 ∷ 9 ∷ 2 ∷ 0 ∷ 0 ∷ 0 ∷ 0 ∷ 2 ∷ 0 ∷ 1 ∷ 99 ∷ 1 ∷ 0
            ∷ 0 ∷ 0 ∷ []),
      ) ∷ []),
      ([]),
    )
    ∷ (
      None,
      ([]),
      ((
        (1 ∷ []),
        (1 ∷ 1 ∷ 6 ∷ 0 ∷ 8 ∷ 1 ∷ 0 ∷ 0 ∷ 0 ∷ 0 ∷ 0 ∷ 1 ∷ 97 ∷ 1 ∷ 0 ∷ 0 ∷ 0 ∷ 0 ∷ 9 ∷ 2 ∷ 0 ∷ 0 ∷ 0 ∷ 0 ∷ 0 ∷ 0 ∷ 1
            ∷ 97 ∷ 1 ∷ 0 ∷ 0 ∷ 0 ∷ 0 ∷ 8 ∷ 1 ∷ 0 ∷ 0 ∷ 0 ∷ 1 ∷ 0 ∷ 1 ∷ 98 ∷ 1 ∷ 0 ∷ 0 ∷ 0 ∷ 0 ∷ 9 ∷ 2 ∷ 0 ∷ 0 ∷ 0 ∷ 0 ∷ 1 ∷ 0 ∷ 1 ∷ 98 ∷ 1
            ∷ 0 ∷ 0
            ∷ 0 ∷ 0 ∷ 8 ∷ 1 ∷ 0 ∷ 0 ∷ 0 ∷ 2 ∷ 0 ∷ 1 ∷ 99 ∷ 1 ∷ 0 ∷ 0 ∷ 0 ∷ 0 ∷ 9 ∷ 2 ∷ 0 ∷ 0 ∷ 0 ∷ 0 ∷ 2 ∷ 0 ∷ 1 ∷ 99 ∷ 1 ∷ 0 ∷ 0 ∷ 0 ∷ []),
      )
          ∷ ((1 ∷ []), (1 ∷ 3 ∷ 0 ∷ 0 ∷ 0 ∷ 0 ∷ [])) ∷ []),
      ([]),
    )
    ∷ (
      None,
      ((Order 0 0 (msg 0 0 ∷ msg 0 1 ∷ [])) ∷ (Order 0 1 (msg 0 2 ∷ [])) ∷ (Place 0 0 (msg 0 0 ∷ msg 0 1 ∷ [])) ∷ []),
      ((
        (1 ∷ []),
        (1 ∷ 1 ∷ 6 ∷ 0 ∷ 12 ∷ 12 ∷ 0 ∷ 0 ∷ 0 ∷ 0 ∷ 2 ∷ 0 ∷ 0 ∷ 0 ∷ 0 ∷ 0 ∷ 1 ∷ 1 ∷ 0 ∷ 0 ∷ 0 ∷ 0 ∷ 8 ∷ 3 ∷ 0 ∷ 0 ∷ 0 ∷ 1 ∷ 0 ∷ 0
            ∷ 2 ∷ 1 ∷ 0 ∷ 0 ∷ 0 ∷ 0 ∷ 12 ∷ 13 ∷ 0 ∷ 0 ∷ 0 ∷ 0 ∷ 2 ∷ 0 ∷ 0 ∷ 0 ∷ 0 ∷ 0 ∷ 1 ∷ 1 ∷ 0 ∷ 0 ∷ 0 ∷ 0 ∷ 9 ∷ 2 ∷ 0 ∷ 0 ∷ 0 ∷ 0 ∷ 0
            ∷ 0 ∷ 1
            ∷ 97 ∷ 2 ∷ 0 ∷ 0 ∷ 0 ∷ 1 ∷ 0 ∷ 0 ∷ 0 ∷ 9 ∷ 2 ∷ 0 ∷ 0 ∷ 0 ∷ 0 ∷ 1 ∷ 0 ∷ 1 ∷ 98 ∷ 2 ∷ 0 ∷ 0 ∷ 0 ∷ 1 ∷ 0 ∷ 0 ∷ 0 ∷ 9 ∷ 2 ∷ 0 ∷ 0
            ∷ 0 ∷ 0
            ∷ 2 ∷ 0 ∷ 1 ∷ 99 ∷ 2 ∷ 0 ∷ 0 ∷ 0 ∷ 1 ∷ 0 ∷ 0 ∷ []),
      ) ∷ []),
      ([]),
    )
    ∷ (
      None,
      ((Place 0 1 (msg 0 2 ∷ [])) ∷ (Keep 0 0 (msg 0 0 ∷ msg 0 1 ∷ [])) ∷ (Keep 0 1 (msg 0 2 ∷ [])) ∷ []),
      ((
        (1 ∷ []),
        (1 ∷ 1 ∷ 3 ∷ 0 ∷ 8 ∷ 4 ∷ 0 ∷ 0 ∷ 0 ∷ 1 ∷ 0 ∷ 0 ∷ 2 ∷ 1 ∷ 0 ∷ 0 ∷ 0 ∷ 0 ∷ 12 ∷ 14 ∷ 0 ∷ 0 ∷ 0 ∷ 0 ∷ 2 ∷ 0 ∷ 0 ∷ 0 ∷ 0 ∷ 0
            ∷ 1 ∷ 1 ∷ 0 ∷ 0 ∷ 0 ∷ 0 ∷ 8 ∷ 5 ∷ 0 ∷ 0 ∷ 0 ∷ 1 ∷ 0 ∷ 0 ∷ 2 ∷ 1 ∷ 0 ∷ 0 ∷ 0 ∷ []),
      ) ∷ []),
      (Delivers 0 (record { place = 0; message = msg 0 0; payload = 97 ∷ [] })
          ∷ Delivers 0 (record { place = 0; message = msg 0 1; payload = 98 ∷ [] }) ∷ []),
    )
    ∷ (
      None,
      ([]),
      ((
        (1 ∷ []),
        (1 ∷ 1 ∷ 6 ∷ 0 ∷ 8 ∷ 1 ∷ 0 ∷ 0 ∷ 0 ∷ 2 ∷ 0 ∷ 1 ∷ 99 ∷ 1 ∷ 0 ∷ 0 ∷ 0 ∷ 0 ∷ 9 ∷ 2 ∷ 0 ∷ 0 ∷ 0 ∷ 0 ∷ 2 ∷ 0 ∷ 1
            ∷ 99 ∷ 1 ∷ 0 ∷ 0 ∷ 0 ∷ 0 ∷ 8 ∷ 3 ∷ 0 ∷ 0 ∷ 0 ∷ 1 ∷ 0 ∷ 0 ∷ 2 ∷ 1 ∷ 0 ∷ 0 ∷ 0 ∷ 0 ∷ 8 ∷ 4 ∷ 0 ∷ 0 ∷ 0 ∷ 1 ∷ 0 ∷ 0 ∷ 2 ∷ 1 ∷ 0 ∷ 0
            ∷ 0
            ∷ 0 ∷ 8 ∷ 5 ∷ 0 ∷ 0 ∷ 0 ∷ 1 ∷ 0 ∷ 0 ∷ 2 ∷ 1 ∷ 0 ∷ 0 ∷ 0 ∷ 0 ∷ 9 ∷ 2 ∷ 0 ∷ 0 ∷ 0 ∷ 0 ∷ 2 ∷ 0 ∷ 1 ∷ 99 ∷ 1 ∷ 1 ∷ 0 ∷ 0 ∷ []),
      )
          ∷ ((1 ∷ []), (1 ∷ 3 ∷ 0 ∷ 0 ∷ 0 ∷ 1 ∷ [])) ∷ []),
      ([]),
    )
    ∷ (None, ([]), ([]), (Delivers 0 (record { place = 1; message = msg 0 2; payload = 99 ∷ [] }) ∷ []))
    ∷ (None, ([]), ([]), ([]))
    ∷ []

unfoldable pub turns_1 : List Turn
turns_1 =
    turn 100000 (Hand 0 (Claims (by 0 (Init 0 0 (97 ∷ [])) ∷ by 0 (Echo 0 (msg 0 0) (97 ∷ [])) ∷ by 0 (Init 0 1 (98 ∷ []))
    ∷ by 0 (Echo 0 (msg 0 1) (98 ∷ [])) ∷ by 0 (Init 0 2 (99 ∷ [])) ∷ by 0 (Echo 0 (msg 0 2) (99 ∷ [])) ∷ [])))
    ∷ turn 99997 (Hand 0 (Wants 0 0))
    ∷ turn 99997 (Hand 0 (Claims (by 0 (Order 0 0 (msg 0 0 ∷ msg 0 1 ∷ [])) ∷ by 0 (Order 0 1 (msg 0 2 ∷ []))
    ∷ by 0 (Place 0 0 (msg 0 0 ∷ msg 0 1 ∷ [])) ∷ by 0 (Echo 0 (msg 0 0) (97 ∷ [])) ∷ by 1 (Echo 0 (msg 0 0) (97 ∷ []))
    ∷ by 0 (Echo 0 (msg 0 1) (98 ∷ [])) ∷ by 1 (Echo 0 (msg 0 1) (98 ∷ [])) ∷ by 0 (Echo 0 (msg 0 2) (99 ∷ []))
    ∷ by 1 (Echo 0 (msg 0 2) (99 ∷ [])) ∷ [])))
    ∷ turn 99994 (Hand 0 (Claims (by 0 (Place 0 1 (msg 0 2 ∷ [])) ∷ by 0 (Keep 0 0 (msg 0 0 ∷ msg 0 1 ∷ []))
    ∷ by 0 (Keep 0 1 (msg 0 2 ∷ [])) ∷ [])))
    ∷ turn 99993 (Hand 0 (Claims (by 0 (Init 0 2 (99 ∷ [])) ∷ by 0 (Echo 0 (msg 0 2) (99 ∷ [])) ∷ by 0 (Order 0 1 (msg 0 2 ∷ []))
    ∷ by 0 (Place 0 1 (msg 0 2 ∷ [])) ∷ by 0 (Keep 0 1 (msg 0 2 ∷ [])) ∷ by 1 (Echo 0 (msg 0 2) (99 ∷ [])) ∷ [])))
    ∷ turn 99993 (Hand 0 (Wants 0 1))
    ∷ []

unfoldable pub answers_1 : List Seen
answers_1 = (
  None,
  ((Echo 0 (msg 0 0) (97 ∷ [])) ∷ (Echo 0 (msg 0 1) (98 ∷ [])) ∷ (Echo 0 (msg 0 2) (99 ∷ [])) ∷ []),
  ((
    (0 ∷ []),
    (1 ∷ 1 ∷ 3 ∷ 0 ∷ 9 ∷ 2 ∷ 0 ∷ 0 ∷ 0 ∷ 0 ∷ 0 ∷ 0 ∷ 1 ∷ 97 ∷ 1 ∷ 1 ∷ 0 ∷ 0 ∷ 0 ∷ 9 ∷ 2 ∷ 0 ∷ 0 ∷ 0 ∷ 0 ∷ 1 ∷ 0 ∷ 1 ∷ 98 ∷ 1
        ∷ 1 ∷ 0 ∷ 0 ∷ 0 ∷ 9 ∷ 2 ∷ 0 ∷ 0 ∷ 0 ∷ 0 ∷ 2 ∷ 0 ∷ 1 ∷ 99 ∷ 1 ∷ 1 ∷ 0 ∷ 0 ∷ []),
  ) ∷ []),
  ([]),
)
    ∷ (None, ([]), ([]), ([]))
    ∷ (
      None,
      ((Place 0 0 (msg 0 0 ∷ msg 0 1 ∷ [])) ∷ (Place 0 1 (msg 0 2 ∷ [])) ∷ (Keep 0 0 (msg 0 0 ∷ msg 0 1 ∷ [])) ∷ []),
      ((
        (0 ∷ []),
        (1 ∷ 1 ∷ 3 ∷ 0 ∷ 12 ∷ 13 ∷ 0 ∷ 0 ∷ 0 ∷ 0 ∷ 2 ∷ 0 ∷ 0 ∷ 0 ∷ 0 ∷ 0 ∷ 1 ∷ 1 ∷ 1 ∷ 0 ∷ 0 ∷ 0 ∷ 8 ∷ 4 ∷ 0 ∷ 0 ∷ 0 ∷ 1 ∷ 0 ∷ 0
            ∷ 2 ∷ 1 ∷ 1 ∷ 0 ∷ 0 ∷ 0 ∷ 12 ∷ 14 ∷ 0 ∷ 0 ∷ 0 ∷ 0 ∷ 2 ∷ 0 ∷ 0 ∷ 0 ∷ 0 ∷ 0 ∷ 1 ∷ 1 ∷ 1 ∷ 0 ∷ 0 ∷ []),
      ) ∷ []),
      ([]),
    )
    ∷ (
      None,
      ((Keep 0 1 (msg 0 2 ∷ [])) ∷ []),
      (((0 ∷ []), (1 ∷ 1 ∷ 1 ∷ 0 ∷ 8 ∷ 5 ∷ 0 ∷ 0 ∷ 0 ∷ 1 ∷ 0 ∷ 0 ∷ 2 ∷ 1 ∷ 1 ∷ 0 ∷ 0 ∷ [])) ∷ []),
      (Delivers 0 (record { place = 0; message = msg 0 0; payload = 97 ∷ [] })
          ∷ Delivers 0 (record { place = 0; message = msg 0 1; payload = 98 ∷ [] })
          ∷ Delivers 0 (record { place = 1; message = msg 0 2; payload = 99 ∷ [] }) ∷ []),
    )
    ∷ (None, ([]), ([]), ([]))
    ∷ (
      None,
      ([]),
      ((
        (0 ∷ []),
        (1 ∷ 2 ∷ 3 ∷ 0 ∷ 8 ∷ 4 ∷ 0 ∷ 0 ∷ 0 ∷ 1 ∷ 0 ∷ 0 ∷ 2 ∷ 2 ∷ 0 ∷ 0 ∷ 0 ∷ 1 ∷ 0 ∷ 0 ∷ 0 ∷ 9 ∷ 2 ∷ 0 ∷ 0 ∷ 0 ∷ 0
            ∷ 2 ∷ 0 ∷ 1 ∷ 99 ∷ 2 ∷ 0 ∷ 0 ∷ 0 ∷ 1 ∷ 0 ∷ 0 ∷ 0 ∷ 8 ∷ 5 ∷ 0 ∷ 0 ∷ 0 ∷ 1 ∷ 0 ∷ 0 ∷ 2 ∷ 2 ∷ 0 ∷ 0 ∷ 0 ∷ 1 ∷ 0 ∷ 0 ∷ []),
      ) ∷ []),
      ([]),
    )
    ∷ []

unfoldable pub f : Family
f = record {
  setting = s;
  correct =
      (record { me = 0; batch_limit = 2; turns = turns_0 } ∷ record { me = 1; batch_limit = 2; turns = turns_1 } ∷ []);
}

-- the row: what the definitions give
pub record TickInFlight : Type 0 where
  pub row_0 : seen s (start s 0 2) turns_0 ≡ answers_0
  pub row_1 : seen s (start s 1 2) turns_1 ≡ answers_1
  pub judged : honest f ∷ bounded (accounts f) (numbers f) ∷ agree (accounts f) ∷ sound (accounts f) (keyed f.setting) ∷ []
      ≡ true ∷ true ∷ true ∷ true ∷ []
  pub premises : Premises f
