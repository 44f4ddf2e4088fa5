-- A view ends while a batch is in flight: the cut falls after the place that was delivered, and the messages of the other one are
-- ordered again in the next view.
use Rattle.std.specs.Prelude.{◌≡◌, List, [], ◌∷◌, true, None}
use Rattle.message_defs.specs.Updates.{Renew}
use Rattle.message_defs.specs.Statements.{Init, Echo, Order, Place, Keep, Notify, End, Suggest, Ack, Ready}
use Rattle.group_defs.specs.Process.{Setting, start, keyed}
use Rattle.message_defs.specs.Claims.{Claims, Wants}
use Rattle.group_defs.specs.Events.{Turn, Submit, Hand, RenewView, Tick, Delivers, Installs}
use Rattle.group_rows.specs.Scripts.{Seen, seen, setting, turn, by, msg, value}
use Rattle.group_defs.specs.Accounts.{bounded, agree, sound}
use Rattle.group_defs.specs.Family.{Family, accounts, numbers, honest}
use Rattle.group_defs.specs.Laws.{Premises}

unfoldable pub s : Setting
s = setting (0 ∷ 1 ∷ []) (0 ∷ 1 ∷ [])

unfoldable pub turns_0 : List Turn
turns_0 =
    turn 100000 (Submit (97 ∷ []))
    ∷ turn 99998 (Submit (98 ∷ []))
    ∷ turn 99996 Tick
    ∷ turn 99996 (Hand 1 (Claims (by 1 (Echo 0 (msg 0 0) (97 ∷ [])) ∷ by 1 (Echo 0 (msg 0 1) (98 ∷ [])) ∷ [])))
    ∷ turn 99994 (Hand 1 (Claims (by 1 (Place 0 0 (msg 0 0 ∷ msg 0 1 ∷ [])) ∷ by 1 (Keep 0 0 (msg 0 0 ∷ msg 0 1 ∷ [])) ∷ [])))
    ∷ turn 99993 (Hand 1 (Claims (by 1 (Init 0 0 (99 ∷ [])) ∷ by 1 (Echo 0 (msg 1 0) (99 ∷ [])) ∷ by 1 (Init 0 1 (100 ∷ []))
    ∷ by 1 (Echo 0 (msg 1 1) (100 ∷ [])) ∷ [])))
    ∷ turn 99989 (Hand 1 (Wants 0 1))
    ∷ turn 99989 RenewView
    ∷ turn 99987 (Hand 1 (Claims (by 1 (End 0 1) ∷ [])))
    ∷ turn 99985 (Hand 1 (Claims (by 1 (Ack 0 0 (value Renew 1)) ∷ [])))
    ∷ turn 99984 (Hand 1 (Claims (by 1 (Ready 0 0 (value Renew 1)) ∷ [])))
    ∷ turn 99984 (Hand 1 (Claims (by 1 (Init 1 0 (99 ∷ [])) ∷ by 1 (Init 1 1 (100 ∷ [])) ∷ by 1 (Echo 1 (msg 1 0) (99 ∷ []))
    ∷ by 1 (Echo 1 (msg 1 1) (100 ∷ [])) ∷ [])))
    ∷ turn 99980 (Hand 1 (Wants 1 0))
    ∷ turn 99980 (Hand 1 (Claims (by 1 (Place 1 0 (msg 1 0 ∷ msg 1 1 ∷ [])) ∷ by 1 (Keep 1 0 (msg 1 0 ∷ msg 1 1 ∷ [])) ∷ [])))
    ∷ []

unfoldable pub answers_0 : List Seen
answers_0 = (
  None,
  ((Init 0 0 (97 ∷ [])) ∷ (Echo 0 (msg 0 0) (97 ∷ [])) ∷ []),
  ((
    (1 ∷ []),
    (1 ∷ 1 ∷ 2 ∷ 0 ∷ 8 ∷ 1 ∷ 0 ∷ 0 ∷ 0 ∷ 0 ∷ 0 ∷ 1 ∷ 97 ∷ 1 ∷ 0 ∷ 0 ∷ 0 ∷ 0 ∷ 9 ∷ 2 ∷ 0 ∷ 0 ∷ 0 ∷ 0 ∷ 0 ∷ 0 ∷ 1 ∷ 97 ∷ 1 ∷ 0
        ∷ 0 ∷ 0 ∷ []),
  ) ∷ []),
  ([]),
)
    ∷ (
      None,
      ((Init 0 1 (98 ∷ [])) ∷ (Echo 0 (msg 0 1) (98 ∷ [])) ∷ []),
      ((
        (1 ∷ []),
        (1 ∷ 1 ∷ 2 ∷ 0 ∷ 8 ∷ 1 ∷ 0 ∷ 0 ∷ 0 ∷ 1 ∷ 0 ∷ 1 ∷ 98 ∷ 1 ∷ 0 ∷ 0 ∷ 0 ∷ 0 ∷ 9 ∷ 2 ∷ 0 ∷ 0 ∷ 0 ∷ 0 ∷ 1 ∷ 0 ∷ 1 ∷ 98 ∷ 1 ∷ 0
            ∷ 0 ∷ 0 ∷ []),
      ) ∷ []),
      ([]),
    )
    ∷ (
      None,
      ([]),
      ((
        (1 ∷ []),
        (1 ∷ 1 ∷ 4 ∷ 0 ∷ 8 ∷ 1 ∷ 0 ∷ 0 ∷ 0 ∷ 0 ∷ 0 ∷ 1 ∷ 97 ∷ 1 ∷ 0 ∷ 0 ∷ 0 ∷ 0 ∷ 9 ∷ 2 ∷ 0 ∷ 0 ∷ 0 ∷ 0 ∷ 0 ∷ 0 ∷ 1
            ∷ 97 ∷ 1 ∷ 0 ∷ 0 ∷ 0 ∷ 0 ∷ 8 ∷ 1 ∷ 0 ∷ 0 ∷ 0 ∷ 1 ∷ 0 ∷ 1 ∷ 98 ∷ 1 ∷ 0 ∷ 0 ∷ 0 ∷ 0 ∷ 9 ∷ 2 ∷ 0 ∷ 0 ∷ 0 ∷ 0 ∷ 1 ∷ 0 ∷ 1 ∷ 98 ∷ 1
            ∷ 0 ∷ 0
            ∷ 0 ∷ []),
      ) ∷ ((1 ∷ []), (1 ∷ 3 ∷ 0 ∷ 0 ∷ 0 ∷ 0 ∷ [])) ∷ []),
      ([]),
    )
    ∷ (
      None,
      ((Order 0 0 (msg 0 0 ∷ msg 0 1 ∷ [])) ∷ (Place 0 0 (msg 0 0 ∷ msg 0 1 ∷ [])) ∷ []),
      ((
        (1 ∷ []),
        (1 ∷ 1 ∷ 4 ∷ 0 ∷ 12 ∷ 12 ∷ 0 ∷ 0 ∷ 0 ∷ 0 ∷ 2 ∷ 0 ∷ 0 ∷ 0 ∷ 0 ∷ 0 ∷ 1 ∷ 1 ∷ 0 ∷ 0 ∷ 0 ∷ 0 ∷ 12 ∷ 13 ∷ 0 ∷ 0 ∷ 0 ∷ 0 ∷ 2 ∷ 0
            ∷ 0 ∷ 0 ∷ 0 ∷ 0 ∷ 1 ∷ 1 ∷ 0 ∷ 0 ∷ 0 ∷ 0 ∷ 9 ∷ 2 ∷ 0 ∷ 0 ∷ 0 ∷ 0 ∷ 0 ∷ 0 ∷ 1 ∷ 97 ∷ 2 ∷ 0 ∷ 0 ∷ 0 ∷ 1 ∷ 0 ∷ 0 ∷ 0 ∷ 9 ∷ 2 ∷ 0 ∷ 0
            ∷ 0
            ∷ 0 ∷ 1 ∷ 0 ∷ 1 ∷ 98 ∷ 2 ∷ 0 ∷ 0 ∷ 0 ∷ 1 ∷ 0 ∷ 0 ∷ []),
      ) ∷ []),
      ([]),
    )
    ∷ (
      None,
      ((Keep 0 0 (msg 0 0 ∷ msg 0 1 ∷ [])) ∷ []),
      (((1 ∷ []), (1 ∷ 1 ∷ 1 ∷ 0 ∷ 12 ∷ 14 ∷ 0 ∷ 0 ∷ 0 ∷ 0 ∷ 2 ∷ 0 ∷ 0 ∷ 0 ∷ 0 ∷ 0 ∷ 1 ∷ 1 ∷ 0 ∷ 0 ∷ 0 ∷ [])) ∷ []),
      (Delivers 0 (record { place = 0; message = msg 0 0; payload = 97 ∷ [] })
          ∷ Delivers 0 (record { place = 0; message = msg 0 1; payload = 98 ∷ [] }) ∷ []),
    )
    ∷ (
      None,
      ((Echo 0 (msg 1 0) (99 ∷ [])) ∷ (Echo 0 (msg 1 1) (100 ∷ [])) ∷ (Order 0 1 (msg 1 0 ∷ msg 1 1 ∷ []))
          ∷ (Place 0 1 (msg 1 0 ∷ msg 1 1 ∷ [])) ∷ []),
      ((
        (1 ∷ []),
        (1 ∷ 1 ∷ 6 ∷ 0 ∷ 9 ∷ 2 ∷ 0 ∷ 0 ∷ 1 ∷ 0 ∷ 0 ∷ 0 ∷ 1 ∷ 99 ∷ 1 ∷ 0 ∷ 0 ∷ 0 ∷ 0 ∷ 9 ∷ 2 ∷ 0 ∷ 0 ∷ 1 ∷ 0 ∷ 1 ∷ 0 ∷ 1 ∷ 100 ∷ 1
            ∷ 0 ∷ 0 ∷ 0 ∷ 0 ∷ 12 ∷ 12 ∷ 0 ∷ 0 ∷ 0 ∷ 1 ∷ 2 ∷ 1 ∷ 0 ∷ 0 ∷ 1 ∷ 0 ∷ 1 ∷ 1 ∷ 0 ∷ 0 ∷ 0 ∷ 0 ∷ 12 ∷ 13 ∷ 0 ∷ 0 ∷ 0 ∷ 1 ∷ 2 ∷ 1 ∷ 0
            ∷ 0
            ∷ 1 ∷ 0 ∷ 1 ∷ 1 ∷ 0 ∷ 0 ∷ 0 ∷ 0 ∷ 9 ∷ 2 ∷ 0 ∷ 0 ∷ 1 ∷ 0 ∷ 0 ∷ 0 ∷ 1 ∷ 99 ∷ 1 ∷ 1 ∷ 0 ∷ 0 ∷ 0 ∷ 9 ∷ 2 ∷ 0 ∷ 0 ∷ 1 ∷ 0 ∷ 1 ∷ 0 ∷ 1
            ∷ 100
            ∷ 1 ∷ 1 ∷ 0 ∷ 0 ∷ []),
      ) ∷ []),
      ([]),
    )
    ∷ (None, ([]), ([]), ([]))
    ∷ (
      None,
      ((Notify 0 Renew) ∷ (End 0 1) ∷ []),
      (((1 ∷ []), (1 ∷ 1 ∷ 2 ∷ 0 ∷ 5 ∷ 6 ∷ 0 ∷ 0 ∷ 3 ∷ 0 ∷ 1 ∷ 0 ∷ 0 ∷ 0 ∷ 0 ∷ 5 ∷ 7 ∷ 0 ∷ 0 ∷ 0 ∷ 1 ∷ 1 ∷ 0 ∷ 0 ∷ 0 ∷ [])) ∷ []),
      ([]),
    )
    ∷ (
      None,
      ((Suggest 0 0 (value Renew 1)) ∷ (Ack 0 0 (value Renew 1)) ∷ []),
      ((
        (1 ∷ []),
        (1 ∷ 1 ∷ 5 ∷ 0 ∷ 8 ∷ 9 ∷ 0 ∷ 0 ∷ 0 ∷ 3 ∷ 0 ∷ 0 ∷ 1 ∷ 1 ∷ 0 ∷ 0 ∷ 0 ∷ 0 ∷ 8 ∷ 10 ∷ 0 ∷ 0 ∷ 0 ∷ 3 ∷ 0 ∷ 0 ∷ 1 ∷ 1 ∷ 0 ∷ 0
            ∷ 0 ∷ 0 ∷ 12 ∷ 13 ∷ 0 ∷ 0 ∷ 0 ∷ 0 ∷ 2 ∷ 0 ∷ 0 ∷ 0 ∷ 0 ∷ 0 ∷ 1 ∷ 2 ∷ 0 ∷ 0 ∷ 0 ∷ 1 ∷ 0 ∷ 0 ∷ 0 ∷ 5 ∷ 6 ∷ 0 ∷ 0 ∷ 3 ∷ 0 ∷ 1 ∷ 0
            ∷ 0 ∷ 0
            ∷ 0 ∷ 5 ∷ 7 ∷ 0 ∷ 0 ∷ 0 ∷ 1 ∷ 2 ∷ 0 ∷ 0 ∷ 0 ∷ 1 ∷ 0 ∷ 0 ∷ []),
      ) ∷ []),
      ([]),
    )
    ∷ (
      None,
      ((Ready 0 0 (value Renew 1)) ∷ []),
      (((1 ∷ []), (1 ∷ 1 ∷ 1 ∷ 0 ∷ 8 ∷ 11 ∷ 0 ∷ 0 ∷ 0 ∷ 3 ∷ 0 ∷ 0 ∷ 1 ∷ 1 ∷ 0 ∷ 0 ∷ 0 ∷ [])) ∷ []),
      ([]),
    )
    ∷ (None, ([]), ([]), (Installs (record { number = 1; members = 0 ∷ 1 ∷ [] }) ∷ []))
    ∷ (
      None,
      ((Echo 1 (msg 1 0) (99 ∷ [])) ∷ (Echo 1 (msg 1 1) (100 ∷ [])) ∷ (Order 1 0 (msg 1 0 ∷ msg 1 1 ∷ []))
          ∷ (Place 1 0 (msg 1 0 ∷ msg 1 1 ∷ [])) ∷ []),
      ((
        (1 ∷ []),
        (1 ∷ 1 ∷ 6 ∷ 0 ∷ 9 ∷ 2 ∷ 0 ∷ 1 ∷ 1 ∷ 0 ∷ 0 ∷ 0 ∷ 1 ∷ 99 ∷ 1 ∷ 0 ∷ 0 ∷ 0 ∷ 0 ∷ 9 ∷ 2 ∷ 0 ∷ 1 ∷ 1 ∷ 0 ∷ 1 ∷ 0 ∷ 1 ∷ 100 ∷ 1
            ∷ 0 ∷ 0 ∷ 0 ∷ 0 ∷ 12 ∷ 12 ∷ 0 ∷ 1 ∷ 0 ∷ 0 ∷ 2 ∷ 1 ∷ 0 ∷ 0 ∷ 1 ∷ 0 ∷ 1 ∷ 1 ∷ 0 ∷ 0 ∷ 0 ∷ 0 ∷ 12 ∷ 13 ∷ 0 ∷ 1 ∷ 0 ∷ 0 ∷ 2 ∷ 1 ∷ 0
            ∷ 0
            ∷ 1 ∷ 0 ∷ 1 ∷ 1 ∷ 0 ∷ 0 ∷ 0 ∷ 0 ∷ 9 ∷ 2 ∷ 0 ∷ 1 ∷ 1 ∷ 0 ∷ 0 ∷ 0 ∷ 1 ∷ 99 ∷ 1 ∷ 1 ∷ 0 ∷ 0 ∷ 0 ∷ 9 ∷ 2 ∷ 0 ∷ 1 ∷ 1 ∷ 0 ∷ 1 ∷ 0 ∷ 1
            ∷ 100
            ∷ 1 ∷ 1 ∷ 0 ∷ 0 ∷ []),
      ) ∷ []),
      ([]),
    )
    ∷ (None, ([]), ([]), ([]))
    ∷ (
      None,
      ((Keep 1 0 (msg 1 0 ∷ msg 1 1 ∷ [])) ∷ []),
      (((1 ∷ []), (1 ∷ 1 ∷ 1 ∷ 0 ∷ 12 ∷ 14 ∷ 0 ∷ 1 ∷ 0 ∷ 0 ∷ 2 ∷ 1 ∷ 0 ∷ 0 ∷ 1 ∷ 0 ∷ 1 ∷ 1 ∷ 0 ∷ 0 ∷ 0 ∷ [])) ∷ []),
      (Delivers 1 (record { place = 0; message = msg 1 0; payload = 99 ∷ [] })
          ∷ Delivers 1 (record { place = 0; message = msg 1 1; payload = 100 ∷ [] }) ∷ []),
    )
    ∷ []

unfoldable pub turns_1 : List Turn
turns_1 =
    turn 100000 (Hand 0 (Claims (by 0 (Init 0 0 (97 ∷ [])) ∷ by 0 (Echo 0 (msg 0 0) (97 ∷ [])) ∷ by 0 (Init 0 1 (98 ∷ []))
    ∷ by 0 (Echo 0 (msg 0 1) (98 ∷ [])) ∷ [])))
    ∷ turn 99998 (Hand 0 (Wants 0 0))
    ∷ turn 99998 (Hand 0 (Claims (by 0 (Order 0 0 (msg 0 0 ∷ msg 0 1 ∷ [])) ∷ by 0 (Place 0 0 (msg 0 0 ∷ msg 0 1 ∷ []))
    ∷ by 0 (Echo 0 (msg 0 0) (97 ∷ [])) ∷ by 1 (Echo 0 (msg 0 0) (97 ∷ [])) ∷ by 0 (Echo 0 (msg 0 1) (98 ∷ []))
    ∷ by 1 (Echo 0 (msg 0 1) (98 ∷ [])) ∷ [])))
    ∷ turn 99996 (Hand 0 (Claims (by 0 (Keep 0 0 (msg 0 0 ∷ msg 0 1 ∷ [])) ∷ [])))
    ∷ turn 99996 (Submit (99 ∷ []))
    ∷ turn 99994 (Submit (100 ∷ []))
    ∷ turn 99992 Tick
    ∷ turn 99992 (Hand 0 (Claims (by 0 (Notify 0 Renew) ∷ by 0 (End 0 1) ∷ [])))
    ∷ turn 99991 (Hand 0 (Claims (by 0 (Suggest 0 0 (value Renew 1)) ∷ by 0 (Ack 0 0 (value Renew 1))
    ∷ by 0 (Place 0 0 (msg 0 0 ∷ msg 0 1 ∷ [])) ∷ by 1 (Place 0 0 (msg 0 0 ∷ msg 0 1 ∷ [])) ∷ by 0 (Notify 0 Renew) ∷ by 0 (End 0 1)
    ∷ by 1 (End 0 1) ∷ [])))
    ∷ turn 99990 (Hand 0 (Claims (by 0 (Ready 0 0 (value Renew 1)) ∷ [])))
    ∷ turn 99989 Tick
    ∷ turn 99985 (Hand 0 (Claims (by 0 (Echo 1 (msg 1 0) (99 ∷ [])) ∷ by 0 (Echo 1 (msg 1 1) (100 ∷ []))
    ∷ by 0 (Order 1 0 (msg 1 0 ∷ msg 1 1 ∷ [])) ∷ by 0 (Place 1 0 (msg 1 0 ∷ msg 1 1 ∷ [])) ∷ by 1 (Echo 1 (msg 1 0) (99 ∷ []))
    ∷ by 1 (Echo 1 (msg 1 1) (100 ∷ [])) ∷ [])))
    ∷ turn 99983 (Hand 0 (Claims (by 0 (Keep 1 0 (msg 1 0 ∷ msg 1 1 ∷ [])) ∷ [])))
    ∷ []

unfoldable pub answers_1 : List Seen
answers_1 = (
  None,
  ((Echo 0 (msg 0 0) (97 ∷ [])) ∷ (Echo 0 (msg 0 1) (98 ∷ [])) ∷ []),
  ((
    (0 ∷ []),
    (1 ∷ 1 ∷ 2 ∷ 0 ∷ 9 ∷ 2 ∷ 0 ∷ 0 ∷ 0 ∷ 0 ∷ 0 ∷ 0 ∷ 1 ∷ 97 ∷ 1 ∷ 1 ∷ 0 ∷ 0 ∷ 0 ∷ 9 ∷ 2 ∷ 0 ∷ 0 ∷ 0 ∷ 0 ∷ 1 ∷ 0 ∷ 1 ∷ 98 ∷ 1
        ∷ 1 ∷ 0 ∷ 0 ∷ []),
  ) ∷ []),
  ([]),
)
    ∷ (None, ([]), ([]), ([]))
    ∷ (
      None,
      ((Place 0 0 (msg 0 0 ∷ msg 0 1 ∷ [])) ∷ (Keep 0 0 (msg 0 0 ∷ msg 0 1 ∷ [])) ∷ []),
      ((
        (0 ∷ []),
        (1 ∷ 1 ∷ 2 ∷ 0 ∷ 12 ∷ 13 ∷ 0 ∷ 0 ∷ 0 ∷ 0 ∷ 2 ∷ 0 ∷ 0 ∷ 0 ∷ 0 ∷ 0 ∷ 1 ∷ 1 ∷ 1 ∷ 0 ∷ 0 ∷ 0 ∷ 12 ∷ 14 ∷ 0 ∷ 0 ∷ 0 ∷ 0 ∷ 2 ∷ 0
            ∷ 0 ∷ 0 ∷ 0 ∷ 0 ∷ 1 ∷ 1 ∷ 1 ∷ 0 ∷ 0 ∷ []),
      ) ∷ []),
      ([]),
    )
    ∷ (
      None,
      ([]),
      ([]),
      (Delivers 0 (record { place = 0; message = msg 0 0; payload = 97 ∷ [] })
          ∷ Delivers 0 (record { place = 0; message = msg 0 1; payload = 98 ∷ [] }) ∷ []),
    )
    ∷ (
      None,
      ((Init 0 0 (99 ∷ [])) ∷ (Echo 0 (msg 1 0) (99 ∷ [])) ∷ []),
      ((
        (0 ∷ []),
        (1 ∷ 1 ∷ 2 ∷ 0 ∷ 8 ∷ 1 ∷ 0 ∷ 0 ∷ 0 ∷ 0 ∷ 0 ∷ 1 ∷ 99 ∷ 1 ∷ 1 ∷ 0 ∷ 0 ∷ 0 ∷ 9 ∷ 2 ∷ 0 ∷ 0 ∷ 1 ∷ 0 ∷ 0 ∷ 0 ∷ 1 ∷ 99 ∷ 1 ∷ 1
            ∷ 0 ∷ 0 ∷ []),
      ) ∷ []),
      ([]),
    )
    ∷ (
      None,
      ((Init 0 1 (100 ∷ [])) ∷ (Echo 0 (msg 1 1) (100 ∷ [])) ∷ []),
      ((
        (0 ∷ []),
        (1 ∷ 1 ∷ 2 ∷ 0 ∷ 8 ∷ 1 ∷ 0 ∷ 0 ∷ 0 ∷ 1 ∷ 0 ∷ 1 ∷ 100 ∷ 1 ∷ 1 ∷ 0 ∷ 0 ∷ 0 ∷ 9 ∷ 2 ∷ 0 ∷ 0 ∷ 1 ∷ 0 ∷ 1 ∷ 0 ∷ 1 ∷ 100 ∷ 1 ∷ 1
            ∷ 0 ∷ 0 ∷ []),
      ) ∷ []),
      ([]),
    )
    ∷ (
      None,
      ([]),
      ((
        (0 ∷ []),
        (1 ∷ 1 ∷ 4 ∷ 0 ∷ 8 ∷ 1 ∷ 0 ∷ 0 ∷ 0 ∷ 0 ∷ 0 ∷ 1 ∷ 99 ∷ 1 ∷ 1 ∷ 0 ∷ 0 ∷ 0 ∷ 9 ∷ 2 ∷ 0 ∷ 0 ∷ 1 ∷ 0 ∷ 0 ∷ 0 ∷ 1
            ∷ 99 ∷ 1 ∷ 1 ∷ 0 ∷ 0 ∷ 0 ∷ 8 ∷ 1 ∷ 0 ∷ 0 ∷ 0 ∷ 1 ∷ 0 ∷ 1 ∷ 100 ∷ 1 ∷ 1 ∷ 0 ∷ 0 ∷ 0 ∷ 9 ∷ 2 ∷ 0 ∷ 0 ∷ 1 ∷ 0 ∷ 1 ∷ 0 ∷ 1 ∷ 100 ∷ 1
            ∷ 1
            ∷ 0 ∷ 0 ∷ []),
      ) ∷ ((0 ∷ []), (1 ∷ 3 ∷ 0 ∷ 0 ∷ 0 ∷ 1 ∷ [])) ∷ []),
      ([]),
    )
    ∷ (None, ((End 0 1) ∷ []), (((0 ∷ []), (1 ∷ 1 ∷ 1 ∷ 0 ∷ 5 ∷ 7 ∷ 0 ∷ 0 ∷ 0 ∷ 1 ∷ 1 ∷ 1 ∷ 0 ∷ 0 ∷ [])) ∷ []), ([]))
    ∷ (
      None,
      ((Ack 0 0 (value Renew 1)) ∷ []),
      (((0 ∷ []), (1 ∷ 1 ∷ 1 ∷ 0 ∷ 8 ∷ 10 ∷ 0 ∷ 0 ∷ 0 ∷ 3 ∷ 0 ∷ 0 ∷ 1 ∷ 1 ∷ 1 ∷ 0 ∷ 0 ∷ [])) ∷ []),
      ([]),
    )
    ∷ (
      None,
      ((Ready 0 0 (value Renew 1)) ∷ []),
      (((0 ∷ []), (1 ∷ 1 ∷ 1 ∷ 0 ∷ 8 ∷ 11 ∷ 0 ∷ 0 ∷ 0 ∷ 3 ∷ 0 ∷ 0 ∷ 1 ∷ 1 ∷ 1 ∷ 0 ∷ 0 ∷ [])) ∷ []),
      (Installs (record { number = 1; members = 0 ∷ 1 ∷ [] }) ∷ []),
    )
    ∷ (
      None,
      ((Init 1 0 (99 ∷ [])) ∷ (Init 1 1 (100 ∷ [])) ∷ (Echo 1 (msg 1 0) (99 ∷ [])) ∷ (Echo 1 (msg 1 1) (100 ∷ [])) ∷ []),
      ((
        (0 ∷ []),
        (1 ∷ 1 ∷ 4 ∷ 0 ∷ 8 ∷ 1 ∷ 0 ∷ 1 ∷ 0 ∷ 0 ∷ 0 ∷ 1 ∷ 99 ∷ 1 ∷ 1 ∷ 0 ∷ 0 ∷ 0 ∷ 8 ∷ 1 ∷ 0 ∷ 1 ∷ 0 ∷ 1 ∷ 0 ∷ 1 ∷ 100 ∷ 1 ∷ 1 ∷ 0
            ∷ 0 ∷ 0 ∷ 9 ∷ 2 ∷ 0 ∷ 1 ∷ 1 ∷ 0 ∷ 0 ∷ 0 ∷ 1 ∷ 99 ∷ 1 ∷ 1 ∷ 0 ∷ 0 ∷ 0 ∷ 9 ∷ 2 ∷ 0 ∷ 1 ∷ 1 ∷ 0 ∷ 1 ∷ 0 ∷ 1 ∷ 100 ∷ 1 ∷ 1 ∷ 0 ∷ 0
            ∷ []),
      )
          ∷ ((0 ∷ []), (1 ∷ 3 ∷ 0 ∷ 1 ∷ 0 ∷ 0 ∷ [])) ∷ []),
      ([]),
    )
    ∷ (
      None,
      ((Place 1 0 (msg 1 0 ∷ msg 1 1 ∷ [])) ∷ (Keep 1 0 (msg 1 0 ∷ msg 1 1 ∷ [])) ∷ []),
      ((
        (0 ∷ []),
        (1 ∷ 1 ∷ 2 ∷ 0 ∷ 12 ∷ 13 ∷ 0 ∷ 1 ∷ 0 ∷ 0 ∷ 2 ∷ 1 ∷ 0 ∷ 0 ∷ 1 ∷ 0 ∷ 1 ∷ 1 ∷ 1 ∷ 0 ∷ 0 ∷ 0 ∷ 12 ∷ 14 ∷ 0 ∷ 1 ∷ 0 ∷ 0 ∷ 2 ∷ 1
            ∷ 0 ∷ 0 ∷ 1 ∷ 0 ∷ 1 ∷ 1 ∷ 1 ∷ 0 ∷ 0 ∷ []),
      ) ∷ []),
      ([]),
    )
    ∷ (
      None,
      ([]),
      ([]),
      (Delivers 1 (record { place = 0; message = msg 1 0; payload = 99 ∷ [] })
          ∷ Delivers 1 (record { place = 0; message = msg 1 1; payload = 100 ∷ [] }) ∷ []),
    )
    ∷ []

unfoldable pub f : Family
f = record {
  setting = s;
  correct =
      (record { me = 0; batch_limit = 16; turns = turns_0 } ∷ record { me = 1; batch_limit = 16; turns = turns_1 } ∷ []);
}

-- the row: what the definitions give
pub record CutBetweenPlaces : Type 0 where
  pub row_0 : seen s (start s 0 16) turns_0 ≡ answers_0
  pub row_1 : seen s (start s 1 16) turns_1 ≡ answers_1
  pub judged : honest f ∷ bounded (accounts f) (numbers f) ∷ agree (accounts f) ∷ sound (accounts f) (keyed f.setting) ∷ []
      ≡ true ∷ true ∷ true ∷ true ∷ []
  pub premises : Premises f
